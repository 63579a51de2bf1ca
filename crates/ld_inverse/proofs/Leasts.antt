-- The least of a set of option_copied, in the order of terms.
use Rattle.std.proofs.Common.{◌≡◌, ◌⊎◌, inl, inr, ℕ, List, [], ◌∷◌, Option, Some, None, Bool, true, false, cond, refl, ap, sym, ◌∙◌, subst, filter, map, find}
use Rattle.std.specs.Cmp.{IsTotalOrder, nat_cmp_total, on_total, then_total, tied_itself, upto}
use Rattle.std.specs.Cmp.Lexicographic.{nat_list_cmp_total, same_text, texts_ties}
use Rattle.std.specs.Ordering.{is_eq, is_gt, ordering_reverse, ordering_then, nat_cmp}
use Rattle.std.specs.declared.cmp.Ordering.{Ordering}
use Rattle.std.specs.declared.cmp.Ordering.TheVariants.{Less, Equal, Greater}
use Rattle.ld_tree.specs.Names.{name_cmp}
use Rattle.ld_rec.specs.Prefixes.{least, lesser}
use Rattle.ld_rec.specs.Slots.{characters, term_cmp}

pub term_total : IsTotalOrder term_cmp
term_total = then_total (on_total characters nat_cmp_total) nat_list_cmp_total

-- a comes no later than b
abbrev pub UpTo : List ℕ → List ℕ → Type 0
UpTo a b = is_gt (term_cmp a b) ≡ false

pub upto_itself : (a : List ℕ) → UpTo a a
upto_itself a = ap is_gt (tied_itself term_total a)

pub upto_chain : (a b c : List ℕ) → UpTo a b → UpTo b c → UpTo a c
upto_chain = upto term_total

then_equal : (p q : Ordering) → ordering_then p q ≡ Equal → q ≡ Equal
then_equal Less q e = cc
then_equal Equal q e = e
then_equal Greater q e = cc

pub equal_names : (a b : List ℕ) → name_cmp a b ≡ Equal → a ≡ b
equal_names a b e = same_text a b (sym (texts_ties a b ∙ ap is_eq e))

both_ways_equal : (o : Ordering) → is_gt o ≡ false → is_gt (ordering_reverse o) ≡ false → o ≡ Equal
both_ways_equal Less h k = cc
both_ways_equal Equal h k = refl
both_ways_equal Greater h k = cc

pub upto_both : (a b : List ℕ) → UpTo a b → UpTo b a → a ≡ b
upto_both a b h k =
    let back : is_gt (ordering_reverse (term_cmp a b)) ≡ false = ap is_gt (sym (term_total.antisymm b a)) ∙ k in
    equal_names a b (then_equal (nat_cmp (characters a) (characters b)) (name_cmp a b) (both_ways_equal (term_cmp a b) h back))

turned : (o : Ordering) → is_gt o ≡ true → is_gt (ordering_reverse o) ≡ false
turned Less h = cc
turned Equal h = cc
turned Greater h = refl

pub upto_otherwise : (a b : List ℕ) → is_gt (term_cmp a b) ≡ true → UpTo b a
upto_otherwise a b h = ap is_gt (term_total.antisymm b a) ∙ turned (term_cmp a b) h

-- ---- the least of those that M holds of

abbrev pub IsLeast : (List ℕ → Type 0) → Option (List ℕ) → Type 0
IsLeast M None = (x : List ℕ) → M x → ⊥
IsLeast M (Some v) = M v × ((x : List ℕ) → M x → UpTo v x)

pub least_unique : (M : List ℕ → Type 0) (r s : Option (List ℕ)) → IsLeast M r → IsLeast M s → r ≡ s
least_unique M None None h k = refl
least_unique M None (Some w) h k = absurd (h w k.0)
least_unique M (Some v) None h k = absurd (k v h.0)
least_unique M (Some v) (Some w) h k = ap Some (upto_both v w (h.1 w k.0) (k.1 v h.0))

pub least_along : (M N : List ℕ → Type 0) → ((x : List ℕ) → M x → N x) → ((x : List ℕ) → N x → M x) → (r : Option (List ℕ)) → IsLeast M r → IsLeast N r
least_along M N to from None h = λ x n. h x (from x n)
least_along M N to from (Some v) h = (to v h.0, λ x n. h.1 x (from x n))

pub least_of_both : (M N : List ℕ → Type 0) (r s : Option (List ℕ)) → IsLeast M r → IsLeast N s → IsLeast (λ x. M x ⊎ N x) (lesser r s)
least_of_both M N None None h k = λ x e. elim e [ inl m ↦ h x m | inr n ↦ k x n ]
least_of_both M N None (Some w) h k = (inr k.0, λ x e. elim e as (λ _. UpTo w x) [ inl m ↦ absurd (h x m) | inr n ↦ k.1 x n ])
least_of_both M N (Some v) None h k = (inl h.0, λ x e. elim e as (λ _. UpTo v x) [ inl m ↦ h.1 x m | inr n ↦ absurd (k x n) ])
least_of_both M N (Some v) (Some w) h k =
    elim (is_gt (term_cmp v w)) as (λ b. is_gt (term_cmp v w) ≡ b → IsLeast (λ x. M x ⊎ N x) (cond b (Some w) (Some v))) [
      | true ↦ λ e. (inr k.0, λ x i. elim i as (λ _. UpTo w x) [ inl m ↦ upto_chain w v x (upto_otherwise v w e) (h.1 x m) | inr n ↦ k.1 x n ])
      | false ↦ λ e. (inl h.0, λ x i. elim i as (λ _. UpTo v x) [ inl m ↦ h.1 x m | inr n ↦ upto_chain v w x e (k.1 x n) ])
    ] refl

-- ---- lists

abbrev pub IsAmong : {X : Type 0} → X → List X → Type 0
IsAmong x [] = ⊥
IsAmong x (y ∷ ys) = (x ≡ y) ⊎ IsAmong x ys

pub least_is : (xs : List (List ℕ)) → IsLeast (λ x. IsAmong x xs) (least xs)
least_is [] = λ x m. m
least_is (y ∷ ys) = least_of_both (λ x. x ≡ y) (λ x. IsAmong x ys) (Some y) (least ys) (refl, λ x e. subst (UpTo y) (sym e) (upto_itself y)) (least_is ys)

module _ {X : Type 0} (test : X → Bool) where
  pub among_filter : (xs : List X) (x : X) → IsAmong x xs → test x ≡ true → IsAmong x (filter test xs)
  among_filter [] x m t = absurd m
  among_filter (y ∷ ys) x (inl e) t = let passes : test y ≡ true = ap test (sym e) ∙ t in rw (passes) (inl e)
  among_filter (y ∷ ys) x (inr m) t =
      elim (test y) as (λ b. IsAmong x (cond b (y ∷ filter test ys) (filter test ys))) [ true ↦ inr (among_filter ys x m t) | false ↦ among_filter ys x m t ]

  pub from_filter : (xs : List X) (x : X) → IsAmong x (filter test xs) → IsAmong x xs × (test x ≡ true)
  from_filter [] x = λ m. absurd m
  from_filter (y ∷ ys) x =
      elim (test y) as (λ b. test y ≡ b → IsAmong x (cond b (y ∷ filter test ys) (filter test ys)) → IsAmong x (y ∷ ys) × (test x ≡ true)) [
        | true ↦ λ t m. elim m as (λ _. IsAmong x (y ∷ ys) × (test x ≡ true)) [ inl e ↦ (inl e, ap test e ∙ t) | inr n ↦ (inr (from_filter ys x n).0, (from_filter ys x n).1) ]
        | false ↦ λ t m. (inr (from_filter ys x m).0, (from_filter ys x m).1)
      ] refl

module _ {X Y : Type 0} (f : X → Y) where
  pub among_map : (xs : List X) (x : X) → IsAmong x xs → IsAmong (f x) (map f xs)
  among_map [] x m = absurd m
  among_map (y ∷ ys) x (inl e) = inl (ap f e)
  among_map (y ∷ ys) x (inr m) = inr (among_map ys x m)

  pub from_map : (xs : List X) (y : Y) → IsAmong y (map f xs) → (x : X) × IsAmong x xs × (y ≡ f x)
  from_map [] y m = absurd m
  from_map (x ∷ xs) y (inl e) = (x, inl refl, e)
  from_map (x ∷ xs) y (inr m) = let found = from_map xs y m in (found.0, inr found.1, found.2)

-- each comes no later than those behind it
abbrev pub IsUp : {X : Type 0} → (X → X → Type 0) → List X → Type 0
IsUp R [] = Unit {0}
IsUp {X} R (x ∷ xs) = ((y : X) → IsAmong y xs → R x y) × IsUp R xs

-- in a list that goes up, the first that passes is the least that does
pub first_is_least : (test : List ℕ → Bool) (xs : List (List ℕ)) → IsUp UpTo xs → IsLeast (λ x. IsAmong x (filter test xs)) (find test xs)
first_is_least test [] up = λ x m. m
first_is_least test (y ∷ ys) up =
    elim (test y) as (λ b. IsLeast (λ x. IsAmong x (cond b (y ∷ filter test ys) (filter test ys))) (cond b (Some y) (find test ys))) [
      | true ↦ (inl refl, λ x m. elim m as (λ _. UpTo y x) [ inl e ↦ subst (UpTo y) (sym e) (upto_itself y) | inr n ↦ up.0 x (from_filter test ys x n).0 ])
      | false ↦ first_is_least test ys up.1
    ]
