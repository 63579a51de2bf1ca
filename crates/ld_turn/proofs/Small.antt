-- Small facts on lists, sums and functions.
use Rattle.std.proofs.Common.{◌≡◌, ◌≢◌, ℕ, zero, suc, ◌+◌, ◌-◌, ◌⊎◌, ◌<◌, ◌≤◌, List, [], ◌∷◌, ◌++◌, length, set, sym, refl, ap, ◌∙◌, subst, ⊎_elim, inl, inr, arith, append_assoc, length-append, Contains}
use mathlib.Core.Option.{some, some-injective, some-ne-none}
use mathlib.Core.List.{IsPrefix}
use native.Mathlib.Decide.{ℕ_discrete}
use lib.ListN.{get_elem?}
use Rattle.std.specs.List.{sum_by, range_with_len}
use Rattle.std.proofs.lemmas.List.Sums.{sum_by-cons}
use Rattle.std.proofs.lemmas.List.FromFn.{length-range_with_len, get_or-range_with_len}
use Rattle.atomic_table.proofs.Lists.{at_set}

abbrev pub pick : {P : Type 0} → Dec P → ℕ → ℕ → ℕ
pick (yes _) a b = a
pick (no _) a b = b

-- the function with one value changed
pub put : (ℕ → ℕ) → ℕ → ℕ → ℕ → ℕ
put f i c j = pick (ℕ_discrete j i) c (f j)

pub put_here : (f : ℕ → ℕ) (i c : ℕ) → put f i c i ≡ c
unfolding put
put_here f i c = go (ℕ_discrete i i)
  where
    go : (d : Dec (i ≡ i)) → pick d c (f i) ≡ c
    go (yes _) = refl
    go (no n) = absurd (n refl)

pub put_else : (f : ℕ → ℕ) (i c j : ℕ) → j ≢ i → put f i c j ≡ f j
unfolding put
put_else f i c j other = go (ℕ_discrete j i)
  where
    go : (d : Dec (j ≡ i)) → pick d c (f j) ≡ f j
    go (yes e) = absurd (other e)
    go (no _) = refl

pub range_contains : (a n i : ℕ) → a ≤ i → i < a + n → Contains (range_with_len a n) i
range_contains a n i le lt = let k : (k : ℕ) × (a + k ≡ i) = (i - a, omega arith) in
    (k.0, omega (arith, k.1, length-range_with_len a n), get_or-range_with_len a n k.0 i (omega (arith, k.1)) ∙ k.1)

pub contains_range : (a n i : ℕ) → Contains (range_with_len a n) i → (a ≤ i) × (i < a + n)
contains_range a n i h = let lt = h.1 in let e : i ≡ a + h.0 = sym h.2 ∙ get_or-range_with_len a n h.0 i (omega (arith, length-range_with_len a n)) in
    (omega (arith, e), omega (arith, e, length-range_with_len a n))

module _ {A : Type 0} where
  pub prefix_self : (xs : List A) → IsPrefix xs xs
  prefix_self [] = ([], refl)
  prefix_self (x ∷ xs) = (let r = prefix_self xs in r.0, ap (λ ys. x ∷ ys) (prefix_self xs).1)

  pub prefix_trans : (xs ys zs : List A) → IsPrefix xs ys → IsPrefix ys zs → IsPrefix xs zs
  prefix_trans xs ys zs p q = (p.0 ++ q.0, sym (append_assoc xs p.0 q.0) ∙ (ap (λ w. w ++ q.0) p.1 ∙ q.1))

  pub prefix_length : (xs ys : List A) → IsPrefix xs ys → length xs ≤ length ys
  prefix_length xs ys p = omega (arith, sym (ap length p.1) ∙ length-append xs p.0)

  pub within : (xs : List A) (i : ℕ) (a : A) → get_elem? xs i ≡ some a → i < length xs
  within [] i a e = absurd (some-ne-none a (sym e))
  within (x ∷ xs) zero a e = omega arith
  within (x ∷ xs) (suc i) a e = omega (arith, within xs i a e)

  pub at_end : (l : List A) (a b : A) (j : ℕ) → get_elem? (l ++ a ∷ []) j ≡ some b → (get_elem? l j ≡ some b) ⊎ ((a ≡ b) × (j ≡ length l))
  at_end [] a b zero e = inr (some-injective a b e, refl)
  at_end [] a b (suc j) e = absurd (some-ne-none b (sym e))
  at_end (x ∷ xs) a b zero e = inl e
  at_end (x ∷ xs) a b (suc j) e = ⊎_elim (λ t. inl t) (λ (t : (a ≡ b) × (j ≡ length xs)). inr (t.0, ap suc t.1)) (at_end xs a b j e)

  pub sum_set : (f : A → ℕ) (xs : List A) (i : ℕ) (v w : A) → get_elem? xs i ≡ some v → sum_by f (set xs i w) + f v ≡ sum_by f xs + f w
  sum_set f [] i v w e = absurd (some-ne-none v (sym e))
  sum_set f (x ∷ xs) zero v w e = let s : f x ≡ f v = ap f (some-injective x v e) in omega (arith, sum_by-cons f x xs, sum_by-cons f w xs)
  sum_set f (x ∷ xs) (suc i) v w e = omega (arith, sum_by-cons f x xs, sum_by-cons f x (set xs i w), sum_set f xs i v w e)

  pub sum_le : (f g : A → ℕ) (xs : List A) → ((j : ℕ) (x : A) → get_elem? xs j ≡ some x → f x ≤ g x) → sum_by f xs ≤ sum_by g xs
  sum_le f g [] h = omega arith
  sum_le f g (x ∷ xs) h = omega (arith, sum_by-cons f x xs, sum_by-cons g x xs, h 0 x refl, sum_le f g xs (λ j. h (suc j)))

  -- where one is less, the sum is
  pub sum_le_at : (f g : A → ℕ) (xs : List A) (i : ℕ) (v : A) → get_elem? xs i ≡ some v → ((j : ℕ) (x : A) → get_elem? xs j ≡ some x → f x ≤ g x) → sum_by f xs + g v ≤ sum_by g xs + f v
  sum_le_at f g [] i v e h = absurd (some-ne-none v (sym e))
  sum_le_at f g (x ∷ xs) zero v e h = let s : f x ≡ f v = ap f (some-injective x v e) in let t : g x ≡ g v = ap g (some-injective x v e) in
      omega (arith, sum_by-cons f x xs, sum_by-cons g x xs, sum_le f g xs (λ j. h (suc j)))
  sum_le_at f g (x ∷ xs) (suc i) v e h = omega (arith, sum_by-cons f x xs, sum_by-cons g x xs, h 0 x refl, sum_le_at f g xs i v e (λ j. h (suc j)))

  pub one_le : (f : A → ℕ) (xs : List A) (i : ℕ) (a : A) → get_elem? xs i ≡ some a → f a ≤ sum_by f xs
  one_le f [] i a e = absurd (some-ne-none a (sym e))
  one_le f (x ∷ xs) zero a e = let s : f x ≡ f a = ap f (some-injective x a e) in omega (arith, sum_by-cons f x xs)
  one_le f (x ∷ xs) (suc i) a e = omega (arith, sum_by-cons f x xs, one_le f xs i a e)

  pub two_le : (f : A → ℕ) (xs : List A) (i j : ℕ) (a b : A) → i ≢ j → get_elem? xs i ≡ some a → get_elem? xs j ≡ some b → f a + f b ≤ sum_by f xs
  two_le f [] i j a b ne p q = absurd (some-ne-none a (sym p))
  two_le f (x ∷ xs) zero zero a b ne p q = absurd (ne refl)
  two_le f (x ∷ xs) zero (suc j) a b ne p q = let s : f x ≡ f a = ap f (some-injective x a p) in omega (arith, sum_by-cons f x xs, one_le f xs j b q)
  two_le f (x ∷ xs) (suc i) zero a b ne p q = let s : f x ≡ f b = ap f (some-injective x b q) in omega (arith, sum_by-cons f x xs, one_le f xs i a p)
  two_le f (x ∷ xs) (suc i) (suc j) a b ne p q = omega (arith, sum_by-cons f x xs, two_le f xs i j a b (λ e. ne (ap suc e)) p q)

  -- what holds of each, at its place
  abbrev pub Each : (ℕ → A → Type 0) → List A → Type 0
  Each K xs = (j : ℕ) (d : A) → get_elem? xs j ≡ some d → K j d

  -- over a change of one
  pub each_set : (K L : ℕ → A → Type 0) (xs : List A) (me : ℕ) (w : A) → L me w → ((j : ℕ) (d : A) → j ≢ me → K j d → L j d) → Each K xs → Each L (set xs me w)
  each_set K L xs me w mine others each j d e = ⊎_elim (λ (t : (j ≡ me) × (w ≡ d)). subst (λ (x : ℕ × A). L x.0 x.1) (λ i. (sym t.0 i, t.1 i)) mine)
      (λ (t : (j ≢ me) × (get_elem? xs j ≡ some d)). others j d t.0 (each j d t.1)) (at_set xs me j w d e)

  -- with one more
  pub each_push : (K : ℕ → A → Type 0) (xs : List A) (x : A) → K (length xs) x → Each K xs → Each K (xs ++ x ∷ [])
  each_push K xs x new each j d e = ⊎_elim (each j d) (λ (t : (x ≡ d) × (j ≡ length xs)). subst (λ (y : ℕ × A). K y.0 y.1) (λ i. (sym t.1 i, t.0 i)) new) (at_end xs x d j e)

  -- of one alone
  pub each_one : (K : ℕ → A → Type 0) (x : A) → K 0 x → Each K (x ∷ [])
  each_one K x k zero d e = subst (K 0) (some-injective x d e) k
  each_one K x k (suc j) d e = absurd (some-ne-none d (sym e))
