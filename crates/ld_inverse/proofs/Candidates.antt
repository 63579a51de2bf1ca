-- The candidates of an IRI, front by front.
use Rattle.std.proofs.Common.{◌≡◌, ◌⊎◌, inl, inr, ℕ, zero, suc, ◌+◌, ◌<◌, ◌≤◌, List, [], ◌∷◌, ◌++◌, Option, Some, None, Bool, true, false, ◌&&◌, ◌||◌, cond, length, get_or, take, drop, map, filter, find, flat_map, refl, ap, sym, ◌∙◌, subst, arith, nat_eq, nat_lt, nat_le, ltb-true, ltb-false, lt-ltb, add-one}
use Rattle.std.specs.BTreeSet.{insert_key}
use Rattle.std.specs.Cmp.{one_rank, ranks, tied_itself, below_irrefl, below_chain}
use Rattle.std.specs.Cmp.Lexicographic.{nat_list_cmp_total, nat_list_eq_equiv, pointwise, same_text, texts_ties}
use Rattle.std.specs.List.{All, Contains, starts_with}
use Rattle.std.specs.Ordering.{is_eq, is_gt, match_ordering, MatchOrdering, nat_cmp, ordering_then}
use Rattle.std.specs.declared.cmp.Ordering.{Ordering}
use Rattle.std.specs.declared.cmp.Ordering.TheVariants.{Less, Equal, Greater}
use Rattle.std.proofs.lemmas.List.Elements.{filter_passes}
use Rattle.std.proofs.lemmas.List.Sums.{sum_by-append, sum_by-cons}
use Rattle.std.proofs.lemmas.List.{length-take}
use Rattle.ld_tree.specs.Names.{name_cmp}
use Rattle.ld_rec.specs.declared.def.Def.{Def}
use Rattle.ld_inverse.proofs.Leasts.{among_filter, among_map, first_is_least, from_filter, from_map, IsAmong, IsLeast, IsUp, least_along, least_is, least_of_both, least_unique, UpTo, upto_chain, upto_otherwise}
use Rattle.ld_inverse.specs.Groups.{group}
use Rattle.ld_rec.specs.Prefixes.{candidates, compact_form, is_front, least, lesser, Prefix, prefix_by, prefix_of}
use Rattle.ld_rec.specs.Slots.{begins_character, characters, shortest_first, term_cmp}

-- ---- the first places of a list

from_take_more : (xs : List ℕ) (i n : ℕ) → i < length xs → IsAmong n (take (suc i) xs) → IsAmong n (take i xs) ⊎ (n ≡ get_or xs i 0)
from_take_more [] i n h m = absurd m
from_take_more (x ∷ xs) zero n h (inl e) = inr e
from_take_more (x ∷ xs) zero n h (inr m) = absurd m
from_take_more (x ∷ xs) (suc i) n h (inl e) = inl (inl e)
from_take_more (x ∷ xs) (suc i) n h (inr m) = elim (from_take_more xs i n (omega arith) m) as (λ _. IsAmong n (x ∷ take i xs) ⊎ (n ≡ get_or xs i 0)) [ inl k ↦ inl (inr k) | inr e ↦ inr e ]

among_take_more : (xs : List ℕ) (i n : ℕ) → i < length xs → IsAmong n (take i xs) ⊎ (n ≡ get_or xs i 0) → IsAmong n (take (suc i) xs)
among_take_more [] i n h m = absurd (omega arith)
among_take_more (x ∷ xs) zero n h (inl m) = absurd m
among_take_more (x ∷ xs) zero n h (inr e) = inl e
among_take_more (x ∷ xs) (suc i) n h (inl m) = elim m as (λ _. IsAmong n (x ∷ take (suc i) xs)) [ inl e ↦ inl e | inr k ↦ inr (among_take_more xs i n (omega arith) (inl k)) ]
among_take_more (x ∷ xs) (suc i) n h (inr e) = inr (among_take_more xs i n (omega arith) (inr e))

pub among_contains : {X : Type 0} (xs : List X) (x : X) → IsAmong x xs → Contains xs x
among_contains [] x m = absurd m
among_contains (y ∷ ys) x (inl e) = (0, omega arith, sym e)
among_contains (y ∷ ys) x (inr m) = let at = among_contains ys x m in (suc at.0, omega (arith, at.1), at.2)

pub among_at : {X : Type 0} (xs : List X) (k : ℕ) (x : X) → k < length xs → get_or xs k x ≡ x → IsAmong x xs
among_at [] k x h e = absurd (omega arith)
among_at (y ∷ ys) zero x h e = inl (sym e)
among_at (y ∷ ys) (suc k) x h e = inr (among_at ys k x (omega arith) e)

-- ---- the terms go up

among_insert : (x : List ℕ) (xs : List (List ℕ)) (y : List ℕ) → IsAmong y (insert_key term_cmp xs x) → (y ≡ x) ⊎ IsAmong y xs
among_insert x [] y = λ m. m
among_insert x (z ∷ zs) y =
    elim (term_cmp x z) as (λ o. IsAmong y (match_ordering o (x ∷ z ∷ zs) (z ∷ zs) (z ∷ insert_key term_cmp zs x)) → (y ≡ x) ⊎ IsAmong y (z ∷ zs)) [
      | Less ↦ λ m. m
      | Equal ↦ λ m. inr m
      | Greater ↦ λ m. elim m as (λ _. (y ≡ x) ⊎ IsAmong y (z ∷ zs)) [ inl e ↦ inr (inl e) | inr n ↦ elim (among_insert x zs y n) as (λ _. (y ≡ x) ⊎ IsAmong y (z ∷ zs)) [ inl e ↦ inl e | inr k ↦ inr (inr k) ] ]
    ]

up_insert : (x : List ℕ) (xs : List (List ℕ)) → IsUp UpTo xs → IsUp UpTo (insert_key term_cmp xs x)
up_insert x [] up = (λ y m. absurd m, tt)
up_insert x (z ∷ zs) up =
    elim (term_cmp x z) as (λ o. term_cmp x z ≡ o → IsUp UpTo (match_ordering o (x ∷ z ∷ zs) (z ∷ zs) (z ∷ insert_key term_cmp zs x))) [
      | Less ↦ λ e. let first : UpTo x z = ap is_gt e in
          (λ y m. elim m as (λ _. UpTo x y) [ inl same ↦ subst (UpTo x) (sym same) first | inr n ↦ upto_chain x z y first (up.0 y n) ], up)
      | Equal ↦ λ e. up
      | Greater ↦ λ e. (λ y m. elim (among_insert x zs y m) as (λ _. UpTo z y) [ inl same ↦ subst (UpTo z) (sym same) (upto_otherwise x z (ap is_gt e)) | inr n ↦ up.0 y n ], up_insert x zs up.1)
    ] refl

pub terms_up : (names : List (List ℕ)) → IsUp UpTo (shortest_first names)
terms_up [] = tt
terms_up (name ∷ names) = up_insert name (shortest_first names) (terms_up names)

-- ---- so do the prefixes

abbrev pub IsUpByTerm : List Prefix → Type 0
IsUpByTerm = IsUp (λ (p q : Prefix). UpTo p.1 q.1)

module _ (found : List ℕ → Option Def) where
  prefixes_in : List (List ℕ) → List Prefix
  prefixes_in names = flat_map (λ term. prefix_of term (found term)) names

  by_flag : (flag : Bool) (term : List ℕ) (iri : Option (List ℕ)) → (prefix_by flag term iri ≡ []) ⊎ ((m : List ℕ) × (prefix_by flag term iri ≡ (m, term) ∷ []))
  by_flag true term (Some iri) = inr (iri, refl)
  by_flag true term None = inl refl
  by_flag false term iri = inl refl

  one_or_none : (term : List ℕ) (def : Option Def) → (prefix_of term def ≡ []) ⊎ ((m : List ℕ) × (prefix_of term def ≡ (m, term) ∷ []))
  one_or_none term (Some def) = by_flag def.prefix term def.mapping
  one_or_none term None = inl refl

  among_terms : (names : List (List ℕ)) (p : Prefix) → IsAmong p (flat_map (λ term. prefix_of term (found term)) names) → IsAmong p.1 names
  among_terms [] p m = absurd m
  among_terms (name ∷ names) p m =
      let rest = flat_map (λ term. prefix_of term (found term)) names in
      elim (one_or_none name (found name)) as (λ _. IsAmong p.1 (name ∷ names)) [
        | inl e ↦ inr (among_terms names p (subst (λ l. IsAmong p (l ++ rest)) e m))
        | inr one ↦ elim (subst (λ l. IsAmong p (l ++ rest)) one.1 m) as (λ _. IsAmong p.1 (name ∷ names)) [ inl same ↦ inl (ap (λ q. q.1) same) | inr n ↦ inr (among_terms names p n) ]
      ]

  pub prefixes_up : (names : List (List ℕ)) → IsUp UpTo names → IsUpByTerm (flat_map (λ term. prefix_of term (found term)) names)
  prefixes_up [] up = tt
  prefixes_up (name ∷ names) up =
      let rest = flat_map (λ term. prefix_of term (found term)) names in
      elim (one_or_none name (found name)) as (λ _. IsUpByTerm (prefix_of name (found name) ++ rest)) [
        | inl e ↦ subst (λ l. IsUpByTerm (l ++ rest)) (sym e) (prefixes_up names up.1)
        | inr one ↦ subst (λ l. IsUpByTerm (l ++ rest)) (sym one.1) (λ q m. up.0 q.1 (among_terms names q m), prefixes_up names up.1)
      ]

-- ---- a colon and one rest behind two terms keep their order

shifted : (m n k : ℕ) (r : Ordering) → MatchOrdering r (m + k < n + k) (m + k ≡ n + k) (n + k < m + k) → MatchOrdering r (m < n) (m ≡ n) (n < m)
shifted m n k Less h = omega arith
shifted m n k Equal h = omega arith
shifted m n k Greater h = omega arith

nat_cmp-add : (m n k : ℕ) → nat_cmp (m + k) (n + k) ≡ nat_cmp m n
nat_cmp-add m n k = one_rank (λ (x y : ℕ). x < y) below_irrefl below_chain m n (nat_cmp (m + k) (n + k)) (nat_cmp m n) (shifted m n k _ (ranks (m + k) (n + k))) (ranks m n)

abbrev weight : Bool → ℕ
weight b = cond b 1 0

characters-append : (a b : List ℕ) → characters (a ++ b) ≡ characters a + characters b
characters-append a b = sum_by-append (λ x. cond (begins_character x) 1 0) a b

characters-cons : (x : ℕ) (xs : List ℕ) → characters (x ∷ xs) ≡ weight (begins_character x) + characters xs
characters-cons x xs = sum_by-cons (λ z. cond (begins_character z) 1 0) x xs

equal_numbers : (m n : ℕ) (o : Ordering) → nat_cmp m n ≡ o → o ≡ Equal → m ≡ n
equal_numbers m n o e f = subst (λ r. MatchOrdering r (m < n) (m ≡ n) (n < m)) (e ∙ f) (ranks m n)

high : (y : ℕ) → begins_character y ≡ false → nat_cmp 58 y ≡ Less
high y h =
    elim (nat_lt y 128) as (λ b. nat_lt y 128 ≡ b → (b || nat_le 192 y) ≡ false → nat_cmp 58 y ≡ Less) [
      | true ↦ λ e f. cc
      | false ↦ λ e f. let low : 128 ≤ y = ltb-false y 128 e in let less : nat_lt 58 y ≡ true = lt-ltb 58 y (omega arith) in rw less refl
    ] refl h

names_up : (a b rest : List ℕ) → characters a ≡ characters b → is_gt (name_cmp a b) ≡ false → is_gt (name_cmp (a ++ (58 ∷ rest)) (b ++ (58 ∷ rest))) ≡ false
names_up [] [] rest same h = ap is_gt (tied_itself nat_list_cmp_total (58 ∷ rest))
names_up [] (y ∷ ys) rest same h =
    elim (begins_character y) as (λ b. begins_character y ≡ b → 0 ≡ weight b + characters ys → is_gt (name_cmp (58 ∷ rest) (y ∷ (ys ++ (58 ∷ rest)))) ≡ false) [
      | true ↦ λ e f. absurd (omega arith)
      | false ↦ λ e f. ap (λ o. is_gt (ordering_then o (name_cmp rest (ys ++ (58 ∷ rest))))) (high y e)
    ] refl (same ∙ characters-cons y ys)
names_up (x ∷ xs) [] rest same h = cc
names_up (x ∷ xs) (y ∷ ys) rest same h =
    elim (nat_cmp x y) as (λ o. nat_cmp x y ≡ o → is_gt (ordering_then o (name_cmp xs ys)) ≡ false → is_gt (ordering_then o (name_cmp (xs ++ (58 ∷ rest)) (ys ++ (58 ∷ rest)))) ≡ false) [
      | Less ↦ λ e f. refl
      | Equal ↦ λ e f. let one : x ≡ y = equal_numbers x y Equal e refl in
          let begins : weight (begins_character x) ≡ weight (begins_character y) = ap (λ z. weight (begins_character z)) one in
          let fewer : characters xs ≡ characters ys = omega (arith, same, begins, characters-cons x xs, characters-cons y ys) in
          names_up xs ys rest fewer f
      | Greater ↦ λ e f. f
    ] refl h

colon_up : (a b rest : List ℕ) → UpTo a b → UpTo (a ++ (58 ∷ rest)) (b ++ (58 ∷ rest))
colon_up a b rest h =
    let numbers : nat_cmp (characters (a ++ (58 ∷ rest))) (characters (b ++ (58 ∷ rest))) ≡ nat_cmp (characters a) (characters b) =
    ap (λ n. nat_cmp n (characters (b ++ (58 ∷ rest)))) (characters-append a (58 ∷ rest))
    ∙ ap (nat_cmp (characters a + characters (58 ∷ rest))) (characters-append b (58 ∷ rest))
    ∙ nat_cmp-add (characters a) (characters b) (characters (58 ∷ rest)) in
    let by_number : is_gt (ordering_then (nat_cmp (characters a) (characters b)) (name_cmp (a ++ (58 ∷ rest)) (b ++ (58 ∷ rest)))) ≡ false =
    elim (nat_cmp (characters a) (characters b)) as (λ o. nat_cmp (characters a) (characters b) ≡ o → is_gt (ordering_then o (name_cmp a b)) ≡ false
    → is_gt (ordering_then o (name_cmp (a ++ (58 ∷ rest)) (b ++ (58 ∷ rest)))) ≡ false) [
      | Less ↦ λ e f. refl
      | Equal ↦ λ e f. names_up a b rest (equal_numbers _ _ Equal e refl) f
      | Greater ↦ λ e f. f
    ] refl h in
    ap (λ o. is_gt (ordering_then o (name_cmp (a ++ (58 ∷ rest)) (b ++ (58 ∷ rest))))) numbers ∙ by_number

module _ (iri : List ℕ) where
  compact_up : (p q : Prefix) → p.0 ≡ q.0 → UpTo p.1 q.1 → UpTo (compact_form iri p) (compact_form iri q)
  compact_up p q same h = subst (λ m. UpTo (p.1 ++ (58 ∷ drop (length p.0) iri)) (q.1 ++ (58 ∷ drop (length m) iri))) same (colon_up p.1 q.1 (drop (length p.0) iri) h)

  -- ---- the candidates of one front

  same_mapping : (key : List ℕ) (m : List ℕ) → is_eq (name_cmp m key) ≡ true → m ≡ key
  same_mapping key m e = same_text m key (sym (texts_ties m key ∙ e))

  pub group_up : (key : List ℕ) (prefixes : List Prefix) → IsUpByTerm prefixes → IsUp UpTo (map (compact_form iri) (group name_cmp key prefixes))
  group_up key [] up = tt
  group_up key (p ∷ ps) up =
      elim (is_eq (name_cmp p.0 key)) as (λ b. is_eq (name_cmp p.0 key) ≡ b → IsUp UpTo (map (compact_form iri) (cond b (p ∷ group name_cmp key ps) (group name_cmp key ps)))) [
        | true ↦ λ e. (
          λ y m.
              let at = from_map (compact_form iri) (group name_cmp key ps) y m in
              let in_group = from_filter (λ q. is_eq (name_cmp q.0 key)) ps at.0 at.1 in
              let one : p.0 ≡ at.0.0 = same_mapping key p.0 e ∙ sym (same_mapping key at.0.0 in_group.1) in
              subst (UpTo (compact_form iri p)) (sym at.2) (compact_up p at.0 one (up.0 at.0 in_group.0)),
          group_up key ps up.1,
        )
        | false ↦ λ e. group_up key ps up.1
      ] refl

  pub group_begins : (prefixes : List Prefix) (n : ℕ) → n ≤ length iri → All (λ p. starts_with nat_eq iri p.0 ≡ true) (group name_cmp (take n iri) prefixes)
  group_begins prefixes n h = λ k d l. begins (get_or (group name_cmp (take n iri) prefixes) k d) (filter_passes (λ (p : Prefix). is_eq (name_cmp p.0 (take n iri))) prefixes k d l) where
    long : length (take n iri) ≡ n
    long = length-take n iri ∙ omega arith

    whole : starts_with nat_eq iri (take n iri) ≡ true
    whole = ap (λ k. pointwise nat_eq (take n iri) (take k iri)) long ∙ nat_list_eq_equiv.refl (take n iri)

    begins : (p : Prefix) → is_eq (name_cmp p.0 (take n iri)) ≡ true → starts_with nat_eq iri p.0 ≡ true
    begins p e = ap (starts_with nat_eq iri) (same_mapping (take n iri) p.0 e) ∙ whole

  -- ---- all of them

  module _ (test : List ℕ → Bool) (prefixes : List Prefix) where
    abbrev pub AtFront : ℕ → List ℕ → Type 0
    AtFront n x = IsAmong x (filter test (map (compact_form iri) (group name_cmp (take n iri) prefixes)))

    -- among the candidates of a front of one of these lengths
    abbrev pub AtFronts : List ℕ → List ℕ → Type 0
    AtFronts lengths x = (n : ℕ) × IsAmong n lengths × AtFront n x

    pub none_at : IsLeast (AtFronts []) None
    none_at = λ x m. m.1

    pub one_more_front : (lengths : List ℕ) (i : ℕ) (best found : Option (List ℕ)) → i < length lengths → IsLeast (AtFronts (take i lengths)) best
        → IsLeast (AtFront (get_or lengths i 0)) found → IsLeast (AtFronts (take (i + 1) lengths)) (lesser best found)
    one_more_front lengths i best found h before here =
        least_along (λ x. AtFronts (take i lengths) x ⊎ AtFront (get_or lengths i 0) x) (AtFronts (take (i + 1) lengths)) to from (lesser best found)
        (least_of_both (AtFronts (take i lengths)) (AtFront (get_or lengths i 0)) best found before here) where
          to : (x : List ℕ) → AtFronts (take i lengths) x ⊎ AtFront (get_or lengths i 0) x → AtFronts (take (i + 1) lengths) x
          to x (inl m) = (m.0, rw add-one (among_take_more lengths i m.0 h (inl m.1)), m.2)
          to x (inr m) = (get_or lengths i 0, rw add-one (among_take_more lengths i (get_or lengths i 0) h (inr refl)), m)

          from : (x : List ℕ) → AtFronts (take (i + 1) lengths) x → AtFronts (take i lengths) x ⊎ AtFront (get_or lengths i 0) x
          from x m = elim (from_take_more lengths i m.0 h (rw add-one at m.1)) as (λ _. AtFronts (take i lengths) x ⊎ AtFront (get_or lengths i 0) x) [
            | inl n ↦ inl (m.0, n, m.2)
            | inr e ↦ inr (subst (λ k. AtFront k x) e m.2)
          ]

    pub found_at_front : (n : ℕ) → IsUpByTerm prefixes → IsLeast (AtFront n) (find test (map (compact_form iri) (group name_cmp (take n iri) prefixes)))
    found_at_front n up = first_is_least test _ (group_up (take n iri) prefixes up)

    to_candidates : (n : ℕ) → n < length iri → (x : List ℕ) → AtFront n x → IsAmong x (filter test (candidates iri prefixes))
    to_candidates n h x m =
        let passes = from_filter test (map (compact_form iri) (group name_cmp (take n iri) prefixes)) x m in
        let at = from_map (compact_form iri) (group name_cmp (take n iri) prefixes) x passes.0 in
        let in_group = from_filter (λ (p : Prefix). is_eq (name_cmp p.0 (take n iri))) prefixes at.0 at.1 in
        let front : is_front at.0.0 iri ≡ true = ap (λ k. is_front k iri) (same_mapping (take n iri) at.0.0 in_group.1) ∙ own_front n h in
        let among : IsAmong (compact_form iri at.0) (candidates iri prefixes) = among_map (compact_form iri) _ at.0 (among_filter (λ (p : Prefix). is_front p.0 iri) prefixes at.0 in_group.0 front) in
        among_filter test (candidates iri prefixes) x (subst (λ y. IsAmong y (candidates iri prefixes)) (sym at.2) among) passes.1 where
          own_front : (n : ℕ) → n < length iri → is_front (take n iri) iri ≡ true
          own_front n h =
              let long : length (take n iri) ≡ n = length-take n iri ∙ omega arith in
              let begins : starts_with nat_eq iri (take n iri) ≡ true = ap (λ k. pointwise nat_eq (take n iri) (take k iri)) long ∙ nat_list_eq_equiv.refl (take n iri) in
              let proper : nat_lt (length (take n iri)) (length iri) ≡ true = lt-ltb _ _ (omega arith) in
              rw (begins, proper) refl

    both_true : (a b : Bool) → (a && b) ≡ true → (a ≡ true) × (b ≡ true)
    both_true true b e = (refl, e)
    both_true false b e = cc

    from_candidates : (x : List ℕ) → IsAmong x (filter test (candidates iri prefixes)) → (p : Prefix) × IsAmong p prefixes × (length p.0 < length iri) × AtFront (length p.0) x
    from_candidates x m =
        let passes = from_filter test (candidates iri prefixes) x m in
        let at = from_map (compact_form iri) (filter (λ (p : Prefix). is_front p.0 iri) prefixes) x passes.0 in
        let in_front = from_filter (λ (p : Prefix). is_front p.0 iri) prefixes at.0 at.1 in
        let both = both_true (starts_with nat_eq iri at.0.0) (nat_lt (length at.0.0) (length iri)) in_front.1 in
        let key : at.0.0 ≡ take (length at.0.0) iri = same_text at.0.0 (take (length at.0.0) iri) (sym both.0) in
        let tied : is_eq (name_cmp at.0.0 (take (length at.0.0) iri)) ≡ true = sym (texts_ties at.0.0 (take (length at.0.0) iri)) ∙ both.0 in
        let among : IsAmong (compact_form iri at.0) (map (compact_form iri) (group name_cmp (take (length at.0.0) iri) prefixes)) =
        among_map (compact_form iri) _ at.0 (among_filter (λ (p : Prefix). is_eq (name_cmp p.0 (take (length at.0.0) iri))) prefixes at.0 in_front.0 tied) in
        (at.0, in_front.0, ltb-true _ _ both.1, among_filter test _ x (subst (λ y. IsAmong y (map (compact_form iri) (group name_cmp (take (length at.0.0) iri) prefixes))) (sym at.2) among) passes.1)

    -- the lengths are below the IRI's, and have those of the mappings that are
    pub least_of_fronts : (lengths : List ℕ) (best : Option (List ℕ)) → ((n : ℕ) → IsAmong n lengths → n < length iri)
        → ((p : Prefix) → IsAmong p prefixes → length p.0 < length iri → IsAmong (length p.0) lengths)
        → IsLeast (AtFronts lengths) best → best ≡ least (filter test (candidates iri prefixes))
    least_of_fronts lengths best within cover h =
        least_unique (λ x. IsAmong x (filter test (candidates iri prefixes))) best _
        (least_along (AtFronts lengths) (λ x. IsAmong x (filter test (candidates iri prefixes))) to from best h)
        (least_is (filter test (candidates iri prefixes))) where
          to : (x : List ℕ) → AtFronts lengths x → IsAmong x (filter test (candidates iri prefixes))
          to x m = to_candidates m.0 (within m.0 m.1) x m.2

          from : (x : List ℕ) → IsAmong x (filter test (candidates iri prefixes)) → AtFronts lengths x
          from x m = let at = from_candidates x m in (length at.0.0, cover at.0 at.1 at.2, at.3)
