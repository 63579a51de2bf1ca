-- A stable sort groups, and two searches by halves find a group.
use Rattle.std.proofs.Common.{◌≡◌, ℕ, zero, suc, ◌≤◌, List, [], ◌∷◌, Bool, true, false, not, ◌&&◌, length, take, drop, refl, ap, sym, ◌∙◌, subst, arith, leb, ◌-◌, length-drop}
use Rattle.std.proofs.lemmas.List.{take_all}
use Rattle.std.specs.Prelude.{filter}
use Rattle.std.specs.List.{AllWithin}
use Rattle.std.specs.List.Sorted.{IsStableByKey, IsPartitionedBy, IsPartitionPoint, IsNonDecreasingBy, ties}
use Rattle.std.specs.Ordering.{is_eq, is_lt, is_le, ordering_index, ordering_reverse}
use Rattle.std.specs.Cmp.{IsTotalOrder}
use Rattle.std.specs.declared.cmp.Ordering.{Ordering}
use Rattle.std.specs.declared.cmp.Ordering.TheVariants.{Less, Equal, Greater}
use Rattle.std.proofs.lemmas.List.Sorted.{searchable_from_sorted, IsPartitionedBy-leb, IsNonDecreasingBy-drop}
use Rattle.ld_inverse.specs.Groups.{group, IsInOrder, IsGrouped}

-- ---- lists

pub filter_alike : {X : Type 0} (p q : X → Bool) → ((x : X) → p x ≡ q x) → (xs : List X) → filter p xs ≡ filter q xs
filter_alike p q same xs = ap (λ t. filter t xs) (λ i x. same x i)

module _ {X : Type 0} (p : X → Bool) where
  -- none of the first n passes
  pub filter-drop : (xs : List X) (n : ℕ) → AllWithin (λ x. p x ≡ false) xs 0 n → n ≤ length xs → filter p xs ≡ filter p (drop n xs)
  filter-drop xs zero none h = refl
  filter-drop [] (suc n) none h = refl
  filter-drop (x ∷ xs) (suc n) none h =
      let first : p x ≡ false = none 0 x (omega arith) (omega arith) in
      let others : filter p xs ≡ filter p (drop n xs) = filter-drop xs n (λ k d l r. none (suc k) d (omega arith) (omega arith)) (omega arith) in
      rw (first) others

  -- just the first n pass
  pub filter-take : (xs : List X) (n : ℕ) → AllWithin (λ x. p x ≡ true) xs 0 n → AllWithin (λ x. p x ≡ false) xs n (length xs) → n ≤ length xs → filter p xs ≡ take n xs
  filter-take [] zero all none h = refl
  filter-take [] (suc n) all none h = refl
  filter-take (x ∷ xs) zero all none h =
      let first : p x ≡ false = none 0 x (omega arith) (omega arith) in
      let others : filter p xs ≡ take 0 xs = filter-take xs 0 (λ k d l r. absurd (omega arith)) (λ k d l r. none (suc k) d (omega arith) (omega arith)) (omega arith) in
      rw (first) others
  filter-take (x ∷ xs) (suc n) all none h =
      let first : p x ≡ true = all 0 x (omega arith) (omega arith) in
      let others : filter p xs ≡ take n xs = filter-take xs n (λ k d l r. all (suc k) d (omega arith) (omega arith)) (λ k d l r. none (suc k) d (omega arith) (omega arith)) (omega arith) in
      rw (first, others) refl

pub within_drop : {X : Type 0} (P : X → Type 0) (xs : List X) (n : ℕ) → AllWithin P xs n (length xs) → AllWithin P (drop n xs) 0 (length (drop n xs))
within_drop P xs zero all = all
within_drop P [] (suc n) all = λ k d l r. absurd (omega arith)
within_drop P (x ∷ xs) (suc n) all = within_drop P xs n (λ k d l r. all (suc k) d (omega arith) (omega arith))

-- ---- orders

lt_leb : (o : Ordering) → leb (ordering_index o) 0 ≡ is_lt o
lt_leb Less = refl
lt_leb Equal = refl
lt_leb Greater = refl

le_leb : (o : Ordering) → leb (ordering_index o) 1 ≡ is_le o
le_leb Less = refl
le_leb Equal = refl
le_leb Greater = refl

lt_not_eq : (o : Ordering) → is_lt o ≡ true → is_eq o ≡ false
lt_not_eq Less h = refl
lt_not_eq Equal h = cc
lt_not_eq Greater h = cc

le_is_eq : (o : Ordering) → is_lt o ≡ false → is_le o ≡ true → is_eq o ≡ true
le_is_eq Less h k = cc
le_is_eq Equal h k = refl
le_is_eq Greater h k = cc

gt_not_eq : (o : Ordering) → is_le o ≡ false → is_eq o ≡ false
gt_not_eq Less h = cc
gt_not_eq Equal h = cc
gt_not_eq Greater h = refl

neither_is_eq : (o : Ordering) → (not (is_lt (ordering_reverse o)) && not (is_lt o)) ≡ is_eq o
neither_is_eq Less = refl
neither_is_eq Equal = refl
neither_is_eq Greater = refl

module _ {K X : Type 0} {cmp : K → K → Ordering} (o : IsTotalOrder cmp) where
  pub ties_is_eq : (x y : K × X) → ties (λ a b. is_lt (cmp a.0 b.0)) x y ≡ is_eq (cmp y.0 x.0)
  ties_is_eq x y = ap (λ r. not (is_lt r) && not (is_lt (cmp y.0 x.0))) (o.antisymm x.0 y.0) ∙ neither_is_eq (cmp y.0 x.0)

  -- what a stable sort leaves; the value is any
  pub grouped_from_sort : (value : X) (entries table : List (K × X)) → IsInOrder cmp table → IsStableByKey (λ e. e.0) cmp entries table → IsGrouped cmp entries table
  grouped_from_sort value entries table up stable = record {
    in_order = up;
    same = λ key. let alike = λ (xs : List (K × X)). filter_alike _ _ (ties_is_eq (key, value)) xs in sym (alike table) ∙ stable (key, value) ∙ alike entries;
  }

  module _ (key : K) where
    ranked : (table : List (K × X)) → IsInOrder cmp table → IsNonDecreasingBy (λ e. ordering_index (cmp e.0 key)) table
    ranked table up = searchable_from_sorted o (λ e. e.0) table key up

    pub lower_parted : (table : List (K × X)) → IsInOrder cmp table → IsPartitionedBy (λ e. is_lt (cmp e.0 key)) table
    lower_parted table up = subst (λ p. IsPartitionedBy p table) (λ i e. lt_leb (cmp e.0 key) i) (IsPartitionedBy-leb (λ e. ordering_index (cmp e.0 key)) table 0 (ranked table up))

    pub upper_parted : (table rest : List (K × X)) (n : ℕ) → rest ≡ drop n table → IsInOrder cmp table → IsPartitionedBy (λ e. is_le (cmp e.0 key)) rest
    upper_parted table rest n same up =
        let ranked_rest : IsNonDecreasingBy (λ e. ordering_index (cmp e.0 key)) rest = rw same (IsNonDecreasingBy-drop (λ e. ordering_index (cmp e.0 key)) n table (ranked table up)) in
        subst (λ p. IsPartitionedBy p rest) (λ i e. le_leb (cmp e.0 key) i) (IsPartitionedBy-leb (λ e. ordering_index (cmp e.0 key)) rest 1 ranked_rest)

    -- where the searches end, the group stands between
    pub found_group : (table rest : List (K × X)) (start count : ℕ) → rest ≡ drop start table → start ≤ length table → count ≤ length rest
        → IsPartitionPoint (λ e. is_lt (cmp e.0 key) ≡ true) (λ e. is_lt (cmp e.0 key) ≡ false) table start
        → IsPartitionPoint (λ e. is_le (cmp e.0 key) ≡ true) (λ e. is_le (cmp e.0 key) ≡ false) rest count
        → take count rest ≡ group cmp key table
    found_group table rest start count same h k lower upper =
        let not_below : AllWithin (λ e. is_lt (cmp e.0 key) ≡ false) rest 0 (length rest) = rw same (within_drop (λ e. is_lt (cmp e.0 key) ≡ false) table start lower.1) in
        let before : group cmp key table ≡ group cmp key rest =
        rw same (filter-drop (λ e. is_eq (cmp e.0 key)) table start (λ n d l r. lt_not_eq _ (lower.0 n d l r)) h) in
        let here : group cmp key rest ≡ take count rest =
        filter-take (λ e. is_eq (cmp e.0 key)) rest count
        (λ n d l r. le_is_eq _ (not_below n d l (omega arith)) (upper.0 n d l r))
        (λ n d l r. gt_not_eq _ (upper.1 n d l r)) k in
        sym (before ∙ here)

-- the part of a slice from n on
pub slice_from : {X : Type 0} (xs : List X) (n : ℕ) → take (length xs - n) (drop n xs) ≡ drop n xs
slice_from xs n = take_all (length xs - n) (drop n xs) (simp length-drop (omega arith))
