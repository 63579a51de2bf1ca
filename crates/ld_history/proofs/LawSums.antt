-- Sums over the open sessions, where what is added changes at one number.
use Rattle.std.proofs.Common.{◌≡◌, ℕ, zero, suc, ◌+◌, ◌*◌, ◌≤◌, ◌<◌, List, [], ◌∷◌, length, map, refl, sym, ap, ◌∙◌, arith, Some, None, Bool, true, false, cond, nat_cmp, get_or, eqb, inl, inr, ◌||◌}
use Rattle.std.specs.Prelude.{slice_get}
use Rattle.std.specs.declared.cmp.Ordering.TheVariants.{Less, Equal, Greater}
use Rattle.std.specs.List.{sum_by, count_by, list_any}
use Rattle.std.specs.List.Sorted.{IsStrictlySortedBy}
use Rattle.std.specs.Ordering.{is_eq, match_ordering}
use Rattle.std.specs.Cmp.{nat_cmp_total, eq_by_cmp_equiv}
use Rattle.std.specs.Map.{keys_of, values_of, set_value}
use Rattle.std.specs.BTreeMap.{is_at}
use Rattle.std.proofs.lemmas.Map.{lookup-none}
use Rattle.std.proofs.lemmas.Map.Entries.{none_past_head, lookup_from_place}
use Rattle.std.proofs.lemmas.Map.Keys.{IsDistinct-from_sorted, IsDistinct-from_apart, below_from_sorted}
use Rattle.std.proofs.lemmas.Map.Steps.{length-le_from_distinct_below}
use Rattle.std.proofs.lemmas.List.Sums.{sum_by-cons}
use Rattle.std.proofs.lemmas.Bool.{cases_Bool, ne_eqb, eqb-true}
use Rattle.ld_history.specs.Words.{at_number}
use Rattle.ld_history.specs.After.{put_number, take_number}

module _ {X : Type 0} (o : ℕ) (f g : ℕ × X → ℕ) (same : (e : ℕ × X) → is_eq (nat_cmp o e.0) ≡ false → g e ≡ f e) where
  sum_same : (es : List (ℕ × X)) → at_number es o ≡ None → sum_by g es ≡ sum_by f es
  sum_same [] none = refl
  sum_same (e ∷ es) none = elim (is_eq (nat_cmp o e.0)) as (λ b. is_eq (nat_cmp o e.0) ≡ b → cond b (Some e.1) (at_number es o) ≡ None → sum_by g (e ∷ es) ≡ sum_by f (e ∷ es)) [
    | true ↦ λ is h. cc
    | false ↦ λ is h. omega (arith, sum_by-cons g e es, sum_by-cons f e es, same e is, sum_same es h)
  ] refl none

  none_after : (e : ℕ × X) (es : List (ℕ × X)) → IsStrictlySortedBy nat_cmp (keys_of (e ∷ es)) → is_eq (nat_cmp o e.0) ≡ true → at_number es o ≡ None
  none_after e es s is = lookup-none (is_at (nat_cmp o)) es (none_past_head (eq_by_cmp_equiv nat_cmp_total) o e es (IsDistinct-from_sorted nat_cmp (keys_of (e ∷ es)) s) is)

  -- the value at the number is changed to y
  pub sum_set : (x y : X) → ((k : ℕ) → is_eq (nat_cmp o k) ≡ true → (f (k, x) ≡ f (o, x)) × (g (k, y) ≡ g (o, y))) → (es : List (ℕ × X)) → IsStrictlySortedBy nat_cmp (keys_of es) → at_number es o ≡ Some x
      → sum_by g (set_value (is_at (nat_cmp o)) es y) + f (o, x) ≡ sum_by f es + g (o, y)
  unfolding IsStrictlySortedBy
  sum_set x y at [] s is = cc
  sum_set x y at (e ∷ es) s is = elim (is_eq (nat_cmp o e.0)) as (λ b. is_eq (nat_cmp o e.0) ≡ b → cond b (Some e.1) (at_number es o) ≡ Some x
      → sum_by g (cond b ((e.0, y) ∷ es) (e ∷ set_value (is_at (nat_cmp o)) es y)) + f (o, x) ≡ sum_by f (e ∷ es) + g (o, y)) [
        | true ↦ λ here some.
            let one : e.1 ≡ x = cc in
            let first : f e ≡ f (o, x) = ap (λ z. f (e.0, z)) one ∙ (at e.0 here).0 in
            omega (arith, sum_by-cons g (e.0, y) es, sum_by-cons f e es, sum_same es (none_after e es s here), first, (at e.0 here).1)
        | false ↦ λ other some.
            let rest = sum_set x y at es s.1 some in
            omega (arith, sum_by-cons g e (set_value (is_at (nat_cmp o)) es y), sum_by-cons f e es, same e other, rest)
      ] refl is

  -- the number is new
  pub sum_put : (y : X) → (es : List (ℕ × X)) → at_number es o ≡ None → sum_by g (put_number es o y) ≡ sum_by f es + g (o, y)
  sum_put y [] none = omega (arith, sum_by-cons g (o, y) [])
  sum_put y (e ∷ es) none = elim (nat_cmp o e.0) as (λ r. nat_cmp o e.0 ≡ r → cond (is_eq r) (Some e.1) (at_number es o) ≡ None
      → sum_by g (match_ordering r ((o, y) ∷ e ∷ es) ((e.0, y) ∷ es) (e ∷ put_number es o y)) ≡ sum_by f (e ∷ es) + g (o, y)) [
        | Less ↦ λ is h. omega (arith, sum_by-cons g (o, y) (e ∷ es), sum_by-cons g e es, sum_by-cons f e es, same e (ap is_eq is), sum_same es h)
        | Equal ↦ λ is h. cc
        | Greater ↦ λ is h. omega (arith, sum_by-cons g e (put_number es o y), sum_by-cons f e es, same e (ap is_eq is), sum_put y es h)
      ] refl none

  -- the number is gone
  pub sum_take : (es : List (ℕ × X)) → IsStrictlySortedBy nat_cmp (keys_of es) → (x : X) → at_number es o ≡ Some x → sum_by g (take_number es o) ≤ sum_by f es
  unfolding IsStrictlySortedBy
  sum_take [] s x is = cc
  sum_take (e ∷ es) s x is = elim (is_eq (nat_cmp o e.0)) as (λ b. is_eq (nat_cmp o e.0) ≡ b → cond b (Some e.1) (at_number es o) ≡ Some x → sum_by g (cond b es (e ∷ take_number es o)) ≤ sum_by f (e ∷ es)) [
    | true ↦ λ here some. omega (arith, sum_by-cons f e es, sum_same es (none_after e es s here))
    | false ↦ λ other some. omega (arith, sum_by-cons g e (take_number es o), sum_by-cons f e es, same e other, sum_take es s.1 x some)
  ] refl is

-- ---- each session takes 320 at most, where it has a request
pub sum-most : {X : Type 0} (f : ℕ × X → ℕ) (p : X → Bool) → ((e : ℕ × X) → f e ≤ 320 * cond (p e.1) 1 0) → (es : List (ℕ × X)) → sum_by f es ≤ 320 * count_by p (values_of es)
sum-most f p each [] = omega arith
sum-most f p each (e ∷ es) = omega (arith, sum_by-cons f e es, sum_by-cons (λ x. cond (p x) 1 0) e.1 (values_of es), each e, sum-most f p each es)

-- ---- entries whose marks are below a bound, no two alike, are no more than that bound
pub place_of : {X : Type 0} (p : X → Bool) (xs : List X) → list_any p xs ≡ true → (i : ℕ) × (x : X) × (slice_get xs i ≡ Some x) × (p x ≡ true)
place_of p [] h = cc
place_of p (x ∷ xs) h = elim (cases_Bool (p x)) [
  | inl here ↦ (0, x, refl, here)
  | inr other ↦
      let tail : list_any p xs ≡ true = ap (λ b. b || list_any p xs) (sym other) ∙ h in
      let r = place_of p xs tail in (suc r.0, r.1, r.2, r.3)
]

got : {X : Type 0} (xs : List X) (i : ℕ) → i < length xs → (x : X) × (slice_get xs i ≡ Some x)
got [] i lt = absurd (omega arith)
got (x ∷ xs) zero lt = (x, refl)
got (x ∷ xs) (suc i) lt = got xs i (omega arith)

mapped : {X Y : Type 0} (v : X → Y) (xs : List X) (i : ℕ) (x : X) (d : Y) → slice_get xs i ≡ Some x → get_or (map v xs) i d ≡ v x
mapped v [] i x d h = cc
mapped v (y ∷ xs) zero x d h = let e : y ≡ x = cc in ap v e
mapped v (y ∷ xs) (suc i) x d h = mapped v xs i x d h

map_length : {X Y : Type 0} (v : X → Y) (xs : List X) → length (map v xs) ≡ length xs
map_length v [] = refl
map_length v (x ∷ xs) = ap suc (map_length v xs)

map_any : {X : Type 0} (v : X → ℕ) (q : ℕ) (xs : List X) → list_any (eqb q) (map v xs) ≡ list_any (λ x. eqb q (v x)) xs
map_any v q [] = refl
map_any v q (x ∷ xs) = ap (λ b. eqb q (v x) || b) (map_any v q xs)

module _ {X : Type 0} (v : X → ℕ) (n : ℕ) (es : List (ℕ × X)) (sorted : IsStrictlySortedBy nat_cmp (keys_of es))
    (low : (k : ℕ) (x : X) → at_number es k ≡ Some x → v x < n) (apart : (k m : ℕ) (x y : X) → at_number es k ≡ Some x → at_number es m ≡ Some y → v x ≡ v y → k ≡ m) where
  found : (i : ℕ) (e : ℕ × X) → slice_get es i ≡ Some e → at_number es e.0 ≡ Some e.1
  found i e is = lookup_from_place (eq_by_cmp_equiv nat_cmp_total) es i e.0 e.1 (IsDistinct-from_sorted nat_cmp (keys_of es) sorted) is

  marks_apart : (i j : ℕ) (d : ℕ) → i < j → j < length (map (λ (e : ℕ × X). v e.1) es) → eqb (get_or (map (λ (e : ℕ × X). v e.1) es) i d) (get_or (map (λ (e : ℕ × X). v e.1) es) j d) ≡ false
  marks_apart i j d lt within =
      let here : j < length es = omega (arith, within, map_length (λ (e : ℕ × X). v e.1) es) in
      let keyed : j < length (keys_of es) = omega (arith, here, map_length (λ (e : ℕ × X). e.0) es) in
      let a = got es i (omega (arith, lt, here)) in
      let b = got es j here in
      let below : get_or (keys_of es) i d < get_or (keys_of es) j d = below_from_sorted (keys_of es) i j d sorted lt keyed in
      let first : get_or (keys_of es) i d ≡ a.0.0 = mapped (λ (e : ℕ × X). e.0) es i a.0 d a.1 in
      let second : get_or (keys_of es) j d ≡ b.0.0 = mapped (λ (e : ℕ × X). e.0) es j b.0 d b.1 in
      ne_eqb _ _ (λ alike.
      let one : a.0.0 ≡ b.0.0 = apart a.0.0 b.0.0 a.0.1 b.0.1 (found i a.0 a.1) (found j b.0 b.1)
      (sym (mapped (λ (e : ℕ × X). v e.1) es i a.0 d a.1) ∙ alike ∙ mapped (λ (e : ℕ × X). v e.1) es j b.0 d b.1) in
      omega (arith, below, first, second, one))

  pub few_entries : length es ≤ n
  few_entries =
      let most = length-le_from_distinct_below (map (λ (e : ℕ × X). v e.1) es) n (IsDistinct-from_apart eqb _ marks_apart) (λ q any.
      let r = place_of (λ (e : ℕ × X). eqb q (v e.1)) es (sym (map_any (λ (e : ℕ × X). v e.1) q es) ∙ any) in
      omega (arith, low r.1.0 r.1.1 (found r.0 r.1 r.2), eqb-true q (v r.1.1) r.3)) in
      omega (arith, most, map_length (λ (e : ℕ × X). v e.1) es)
