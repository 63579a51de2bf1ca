-- Numbers that rise: one is put in at its place, or taken out.
use Rattle.std.proofs.Common.{◌≡◌, ℕ, zero, suc, ◌≤◌, ◌<◌, List, [], ◌∷◌, length, get_or, nat_lt, refl, sym, ap, ◌∙◌, subst, arith, Option, Some, None, Bool, true, false, inl, inr, ◌&&◌, ◌||◌, not, nat_cmp, is_some}
use Rattle.std.specs.Prelude.{slice_get, MatchResult, Result, Ok, Err}
use Rattle.std.specs.declared.cmp.Ordering.TheVariants.{Less}
use Rattle.std.specs.Ordering.{is_eq}
use Rattle.std.specs.List.{insert, remove, AllByRecursion}
use Rattle.std.specs.List.Sorted.{IsStrictlySortedBy, IsBinarySearchResult}
use Rattle.std.specs.BTreeMap.{is_at}
use Rattle.std.specs.Option.{IsSome}
use Rattle.std.specs.Cmp.{nat_cmp_total, tied_itself, eq_by_cmp_equiv}
use Rattle.std.proofs.lemmas.Bool.{or_right, false_from_ne_true}
use Rattle.std.proofs.lemmas.Bool.Decides.{nat_tests}
use Rattle.std.proofs.lemmas.List.Sorted.{searched, IsPermutation-insert, IsPermutation-remove, list_any-IsPermutation}
use Rattle.std.proofs.lemmas.Option.{get_or_from_slice_get, slice_get-get_or}
use Rattle.std.proofs.lemmas.Map.Keys.{below_from_sorted, non_decreasing_from_sorted, IsDistinct-from_sorted}
use Rattle.std.proofs.lemmas.Map.Steps.{length-le_from_keys}
use Rattle.ld_history.specs.Order.{has, AreKnown}
use Rattle.ld_history.specs.Words.{at_number}
use Rattle.ld_history.specs.After.{take_number}
use Rattle.ld_history.proofs.LawFlights.{number_cases, apart_numbers, take_number_other}
use Rattle.ld_history.proofs.LawTables.{length-take_found}
use Rattle.ld_history.proofs.LawSums.{place_of}
use Rattle.ld_history.proofs.IndexFirst.{any_from}

abbrev IsAbove : ℕ → List ℕ → Type 0
IsAbove low ns = AllByRecursion (λ y. nat_cmp low y ≡ Less) ns

less_from : (a b : ℕ) → a < b → nat_cmp a b ≡ Less
less_from a b lt = grind (arith, nat_tests)

above_each : (low : ℕ) (ns : List ℕ) → ((k : ℕ) → k < length ns → low < get_or ns k 0) → IsAbove low ns
above_each low [] each = tt
above_each low (n ∷ ns) each = (less_from low n (each 0 (omega arith)), above_each low ns (λ k lt. each (suc k) (omega (arith, lt))))

above_put : (low : ℕ) (ns : List ℕ) (i v : ℕ) → nat_cmp low v ≡ Less → IsAbove low ns → IsAbove low (insert ns i v)
above_put low ns zero v lt h = (lt, h)
above_put low [] (suc i) v lt h = (lt, tt)
above_put low (n ∷ ns) (suc i) v lt h = (h.0, above_put low ns i v lt h.1)

above_cut : (low : ℕ) (ns : List ℕ) (i : ℕ) → IsAbove low ns → IsAbove low (remove ns i)
above_cut low [] zero h = tt
above_cut low [] (suc i) h = tt
above_cut low (n ∷ ns) zero h = h.1
above_cut low (n ∷ ns) (suc i) h = (h.0, above_cut low ns i h.1)

put_rises : (ns : List ℕ) (i v : ℕ) → IsStrictlySortedBy nat_cmp ns → i ≤ length ns → ((k : ℕ) → k < i → get_or ns k 0 < v) → ((k : ℕ) → i ≤ k → k < length ns → v < get_or ns k 0) → IsStrictlySortedBy nat_cmp (insert ns i v)
unfolding IsStrictlySortedBy
put_rises ns zero v h le before after = (above_each v ns (λ k lt. after k (omega arith) lt), h)
put_rises [] (suc i) v h le before after = absurd (omega (arith, le))
put_rises (n ∷ ns) (suc i) v h le before after =
    (above_put n ns i v (less_from n v (before 0 (omega arith))) h.0, put_rises ns i v h.1 (omega (arith, le)) (λ k lt. before (suc k) (omega (arith, lt))) (λ k from lt. after (suc k) (omega (arith, from)) (omega (arith, lt))))

pub cut_rises : (ns : List ℕ) (i : ℕ) → IsStrictlySortedBy nat_cmp ns → IsStrictlySortedBy nat_cmp (remove ns i)
unfolding IsStrictlySortedBy
cut_rises [] zero h = tt
cut_rises [] (suc i) h = tt
cut_rises (n ∷ ns) zero h = h.1
cut_rises (n ∷ ns) (suc i) h = (above_cut n ns i h.0, cut_rises ns i h.1)

-- ---- what is among them
not_above : (low : ℕ) (ns : List ℕ) → IsAbove low ns → has ns low ≡ false
not_above low [] h = refl
not_above low (n ∷ ns) h = ap (λ o. is_eq o || has ns low) h.0 ∙ not_above low ns h.1

itself : (n : ℕ) → is_eq (nat_cmp n n) ≡ true
itself n = ap is_eq (tied_itself nat_cmp_total n)

turned : (a b : ℕ) → is_at (nat_cmp a) b ≡ is_at (nat_cmp b) a
turned a b = elim (number_cases a b) [
  | inl same ↦ ap (λ n. is_at (nat_cmp n) b) same ∙ ap (is_at (nat_cmp b)) (sym same)
  | inr apart ↦ apart ∙ sym (false_from_ne_true (is_at (nat_cmp b) a) (λ e. elim (number_cases b a) [ inl same ↦ absurd (apart_numbers a b apart (sym same)) | inr other ↦ (let bad : true ≡ false = sym e ∙ other in cc) ]))
]

has_put : (ns : List ℕ) (i v q : ℕ) → has (insert ns i v) q ≡ (is_at (nat_cmp v) q || has ns q)
has_put ns i v q = sym (list_any-IsPermutation (is_at (nat_cmp q)) (v ∷ ns) (insert ns i v) (IsPermutation-insert ns i v)) ∙ ap (λ b. b || has ns q) (turned q v)

cut_itself : (ns : List ℕ) (i v : ℕ) → IsStrictlySortedBy nat_cmp ns → i < length ns → get_or ns i 0 ≡ v → has (remove ns i) v ≡ false
unfolding IsStrictlySortedBy
cut_itself [] i v h lt at = absurd (omega (arith, lt))
cut_itself (n ∷ ns) zero v h lt at = let same : n ≡ v = at in ap (has ns) (sym same) ∙ not_above n ns h.0
cut_itself (n ∷ ns) (suc i) v h lt at =
    let up : n < get_or ns i 0 = below_from_sorted (n ∷ ns) 0 (suc i) 0 h (omega arith) lt in
    let apart : is_at (nat_cmp v) n ≡ false = elim (number_cases v n) [ inl same ↦ absurd (omega (arith, up, at, same)) | inr a ↦ a ] in
    ap (λ b. b || has (remove ns i) v) apart ∙ cut_itself ns i v h.1 (omega (arith, lt)) at

has_cut : (ns : List ℕ) (i v q : ℕ) → IsStrictlySortedBy nat_cmp ns → i < length ns → get_or ns i 0 ≡ v → has (remove ns i) q ≡ (not (is_at (nat_cmp v) q) && has ns q)
has_cut ns i v q h lt at = elim (number_cases v q) [
  | inl same ↦ ap (has (remove ns i)) (sym same) ∙ cut_itself ns i v h lt at ∙ sym (ap (λ b. not b && has ns q) (ap (is_at (nat_cmp v)) (sym same) ∙ itself v))
  | inr apart ↦
      let whole : has ns q ≡ (is_at (nat_cmp q) v || has (remove ns i) q) = list_any-IsPermutation (is_at (nat_cmp q)) ns (v ∷ remove ns i) (IsPermutation-remove ns i v lt (sym (here ns i v lt at))) in
      let other : is_at (nat_cmp q) v ≡ false = turned q v ∙ apart in
      sym (ap (λ b. not b && has ns q) apart ∙ whole ∙ ap (λ b. b || has (remove ns i) q) other)
]
  where
    here : (ns : List ℕ) (i v : ℕ) → i < length ns → get_or ns i 0 ≡ v → get_or ns i v ≡ v
    here ns i v lt at = get_or_from_slice_get ns i v v (slice_get-get_or ns i 0 lt ∙ ap Some at)

-- ---- after a search
module _ (ns : List ℕ) (v : ℕ) (h : IsStrictlySortedBy nat_cmp ns) (r : Result ℕ ℕ) (found : IsBinarySearchResult (λ y. nat_cmp y v) ns r) where
  told : MatchResult r (λ i. (i < length ns) × (get_or ns i 0 ≡ v)) (λ i. (i ≤ length ns) × ((k : ℕ) → k < i → get_or ns k 0 < v) × ((k : ℕ) → i ≤ k → k < length ns → v < get_or ns k 0))
  told = searched ns v r found (λ i j le lt. non_decreasing_from_sorted ns h i j 0 le lt)

  pub there : (i : ℕ) → r ≡ Ok i → (i < length ns) × (get_or ns i 0 ≡ v)
  there i is = subst (λ r. MatchResult r (λ i. (i < length ns) × (get_or ns i 0 ≡ v)) (λ i. (i ≤ length ns) × ((k : ℕ) → k < i → get_or ns k 0 < v) × ((k : ℕ) → i ≤ k → k < length ns → v < get_or ns k 0))) is told

  absent : (i : ℕ) → r ≡ Err i → (i ≤ length ns) × ((k : ℕ) → k < i → get_or ns k 0 < v) × ((k : ℕ) → i ≤ k → k < length ns → v < get_or ns k 0)
  absent i is = subst (λ r. MatchResult r (λ i. (i < length ns) × (get_or ns i 0 ≡ v)) (λ i. (i ≤ length ns) × ((k : ℕ) → k < i → get_or ns k 0 < v) × ((k : ℕ) → i ≤ k → k < length ns → v < get_or ns k 0))) is told

  pub has_there : (i : ℕ) → r ≡ Ok i → has ns v ≡ true
  has_there i is =
      let t = there i is in
      any_from (is_at (nat_cmp v)) ns i v (slice_get-get_or ns i 0 t.0 ∙ ap Some t.1) (itself v)

  pub has_not : (i : ℕ) → r ≡ Err i → has ns v ≡ false
  has_not i is = false_from_ne_true (has ns v) (λ any.
      let a = absent i is in
      let p = place_of (is_at (nat_cmp v)) ns any in
      let same : v ≡ p.1 = elim (number_cases v p.1) [ inl same ↦ same | inr apart ↦ absurd (let bad : true ≡ false = sym p.3 ∙ apart in cc) ] in
      let at : get_or ns p.0 0 ≡ v = get_or_from_slice_get ns p.0 p.1 0 p.2 ∙ sym same in
      stuck a p.0 at (within ns p.0 p.1 p.2))
    where
      within : (ns : List ℕ) (i x : ℕ) → slice_get ns i ≡ Some x → i < length ns
      within [] i x is = cc
      within (n ∷ ns) zero x is = omega arith
      within (n ∷ ns) (suc i) x is = let lt = within ns i x is in omega (arith, lt)

      stuck : (i ≤ length ns) × ((k : ℕ) → k < i → get_or ns k 0 < v) × ((k : ℕ) → i ≤ k → k < length ns → v < get_or ns k 0) → (k : ℕ) → get_or ns k 0 ≡ v → k < length ns → ⊥
      stuck a k at lt = by_test (nat_lt k i) refl
        where
          by_test : (b : Bool) → nat_lt k i ≡ b → ⊥
          by_test true e = let below : get_or ns k 0 < v = a.1 k (grind (arith, nat_tests)) in omega (arith, below, at)
          by_test false e = let above : v < get_or ns k 0 = a.2 k (grind (arith, nat_tests)) lt in omega (arith, above, at)

  pub added : (i : ℕ) → r ≡ Err i → (after : List ℕ) → after ≡ insert ns i v → IsStrictlySortedBy nat_cmp after
  added i is after e = let a = absent i is in subst (IsStrictlySortedBy nat_cmp) (sym e) (put_rises ns i v h a.0 a.1 a.2)

  pub has_added : (i : ℕ) → (after : List ℕ) → after ≡ insert ns i v → (q : ℕ) → has after q ≡ (is_at (nat_cmp v) q || has ns q)
  has_added i after e q = ap (λ l. has l q) e ∙ has_put ns i v q

  pub has_still : (i : ℕ) → r ≡ Ok i → (q : ℕ) → has ns q ≡ (is_at (nat_cmp v) q || has ns q)
  has_still i is q = elim (number_cases v q) [
    | inl same ↦
        let one : has ns q ≡ true = ap (has ns) (sym same) ∙ has_there i is in
        one ∙ sym (or_right (is_at (nat_cmp v) q) (has ns q) one)
    | inr apart ↦ sym (ap (λ b. b || has ns q) apart)
  ]

  pub has_dropped : (i : ℕ) → r ≡ Ok i → (after : List ℕ) → after ≡ remove ns i → (q : ℕ) → has after q ≡ (not (is_at (nat_cmp v) q) && has ns q)
  has_dropped i is after e q = let t = there i is in ap (λ l. has l q) e ∙ has_cut ns i v q h t.0 t.1

  pub has_none : (i : ℕ) → r ≡ Err i → (q : ℕ) → has ns q ≡ (not (is_at (nat_cmp v) q) && has ns q)
  has_none i is q = elim (number_cases v q) [
    | inl same ↦ ap (has ns) (sym same) ∙ has_not i is ∙ sym (ap (λ b. not b && has ns q) (ap (is_at (nat_cmp v)) (sym same) ∙ itself v))
    | inr apart ↦ sym (ap (λ b. not b && has ns q) apart)
  ]

-- the first of them is the least
pub first_least : (ns : List ℕ) (v q : ℕ) → IsStrictlySortedBy nat_cmp ns → slice_get ns 0 ≡ Some v → has ns q ≡ true → v ≤ q
unfolding IsStrictlySortedBy
first_least [] v q h is any = cc
first_least (n ∷ ns) v q h is any =
    let one : n ≡ v = cc in
    elim (number_cases q n) [
      | inl same ↦ omega (arith, same, one)
      | inr apart ↦
          let rest : has ns q ≡ true = sym (ap (λ b. b || has ns q) apart) ∙ any in
          let p = place_of (is_at (nat_cmp q)) ns rest in
          let same : q ≡ p.1 = elim (number_cases q p.1) [ inl same ↦ same | inr other ↦ absurd (let bad : true ≡ false = sym p.3 ∙ other in cc) ] in
          let up : n < p.1 = above_at n ns p.0 p.1 h.0 p.2 in
          omega (arith, up, same, one)
    ]
  where
    above_at : (low : ℕ) (ns : List ℕ) (i x : ℕ) → IsAbove low ns → slice_get ns i ≡ Some x → low < x
    above_at low [] i x h is = cc
    above_at low (n ∷ ns) zero x h is = let same : n ≡ x = cc in let less : nat_cmp low n ≡ Less = h.0 in let lt : low < n = grind (arith, nat_tests) in omega (arith, lt, same)
    above_at low (n ∷ ns) (suc i) x h is = above_at low ns i x h.1 is

pub first_among : (ns : List ℕ) (v : ℕ) → slice_get ns 0 ≡ Some v → has ns v ≡ true
first_among ns v is = any_from (is_at (nat_cmp v)) ns 0 v is (itself v)

pub none_among : (ns : List ℕ) (q : ℕ) → slice_get ns 0 ≡ None → has ns q ≡ false
none_among [] q is = refl
none_among (n ∷ ns) q is = cc

-- ---- room for one more
some_is : {X : Type 0} (o : Option X) → is_some o ≡ true → IsSome o
some_is None h = cc
some_is (Some x) h = refl

pub room_for : (order : List (ℕ × List ℕ)) (free : List ℕ) (version room : ℕ) → IsStrictlySortedBy nat_cmp free → AreKnown order free → is_some (at_number order version) ≡ true → length order ≤ room → has free version ≡ false → length free < room
room_for order free version room rises known here le not_yet =
    let e = has_one (at_number order version) here in
    let fewer : suc (length (take_number order version)) ≡ length order = length-take_found nat_cmp_total version order e.0 e.1 in
    let few : length free ≤ length (take_number order version)
    = length-le_from_keys (eq_by_cmp_equiv nat_cmp_total) free (take_number order version) (IsDistinct-from_sorted nat_cmp free rises)
    (λ q any. some_is (at_number (take_number order version) q) (ap is_some (take_number_other order version q (apart q any)) ∙ known.each q any)) in
    omega (arith, fewer, few, le)
  where
    has_one : (o : Option (List ℕ)) → is_some o ≡ true → (x : List ℕ) × (o ≡ Some x)
    has_one None h = cc
    has_one (Some x) h = (x, refl)

    apart : (q : ℕ) → has free q ≡ true → is_eq (nat_cmp q version) ≡ false
    apart q any = elim (number_cases q version) [
      | inl same ↦ absurd (let bad : true ≡ false = sym any ∙ ap (has free) same ∙ not_yet in cc)
      | inr a ↦ a
    ]
