-- Terms that are inserted with their numbers of characters stand as the definition has them.
use Rattle.std.proofs.Common.{◌≡◌, ◌<◌, ℕ, zero, suc, length, get_or, arith, List, [], ◌∷◌, Some, drop, refl, ap, sym, ◌∙◌, subst}
use Rattle.std.specs.Prelude.{map, slice_get}
use Rattle.std.specs.BTreeSet.{insert_key}
use Rattle.std.specs.Borrow.{Bor}
use Rattle.std.specs.Ordering.{match_ordering, ordering_then, nat_cmp}
use Rattle.std.specs.declared.cmp.Ordering.{Ordering}
use Rattle.std.specs.declared.cmp.Ordering.TheVariants.{Less, Equal, Greater}
use Rattle.ld_tree.specs.Names.{name_cmp}
use Rattle.ld_rec.specs.Slots.{characters, shortest_first, term_cmp}
use Rattle.ld_inverse.specs.Orders.{mark}

-- a function that keeps the order
pub map-insert_key : {K L : Type 0} (R : L → L → Ordering) (f : K → L) (xs : List K) (x : K) → map f (insert_key (λ a b. R (f a) (f b)) xs x) ≡ insert_key R (map f xs) (f x)
map-insert_key R f [] x = refl
map-insert_key R f (y ∷ ys) x =
    elim (R (f x) (f y)) as (λ o. map f (match_ordering o (x ∷ y ∷ ys) (y ∷ ys) (y ∷ insert_key (λ a b. R (f a) (f b)) ys x)) ≡ match_ordering o (f x ∷ f y ∷ map f ys) (f y ∷ map f ys) (f y ∷ insert_key R (map f ys) (f x))) [
      | Less ↦ refl
      | Equal ↦ refl
      | Greater ↦ ap (λ zs. f y ∷ zs) (map-insert_key R f ys x)
    ]

abbrev pub Term : Type 0
Term = ℕ × Bor (List ℕ)

abbrev pub counted : Term → ℕ × List ℕ
counted t = (t.0, t.1.now)

abbrev pub counted_cmp : ℕ × List ℕ → ℕ × List ℕ → Ordering
counted_cmp a b = ordering_then (nat_cmp a.0 b.0) (name_cmp a.1 b.1)

-- one more term
pub counted-insert : (sorted : List Term) (term : Term) (terms : List (List ℕ)) → term.0 ≡ characters term.1.now → map counted sorted ≡ map mark terms
    → map counted (insert_key (λ a b. counted_cmp (counted a) (counted b)) sorted term) ≡ map mark (insert_key term_cmp terms term.1.now)
counted-insert sorted term terms count same =
    map-insert_key counted_cmp counted sorted term
    ∙ ap (λ xs. insert_key counted_cmp xs (counted term)) same
    ∙ ap (λ n. insert_key counted_cmp (map mark terms) (n, term.1.now)) count
    ∙ sym (map-insert_key counted_cmp mark terms term.1.now)

pub drop-get : {X : Type 0} (xs : List X) (i : ℕ) (x : X) → slice_get xs i ≡ Some x → drop i xs ≡ x ∷ drop (suc i) xs
drop-get [] i x e = cc
drop-get (y ∷ ys) zero x e = let same : y ≡ x = cc in ap (λ z. z ∷ ys) same
drop-get (y ∷ ys) (suc i) x e = drop-get ys i x e

pub names_of_counted : (sorted : List Term) (terms : List (List ℕ)) → map counted sorted ≡ map mark terms → map (λ t. t.1.now) sorted ≡ terms
names_of_counted sorted terms same = sym (firsts sorted) ∙ ap (map (λ p. p.1)) same ∙ seconds terms where
  firsts : (ts : List Term) → map (λ (p : ℕ × List ℕ). p.1) (map counted ts) ≡ map (λ t. t.1.now) ts
  firsts [] = refl
  firsts (t ∷ ts) = ap (λ zs. t.1.now ∷ zs) (firsts ts)

  seconds : (ts : List (List ℕ)) → map (λ (p : ℕ × List ℕ). p.1) (map mark ts) ≡ ts
  seconds [] = refl
  seconds (t ∷ ts) = ap (λ zs. t ∷ zs) (seconds ts)

pub get-map : (xs : List (Bor (List ℕ))) (i : ℕ) (d : Bor (List ℕ)) → i < length xs → slice_get (map (λ (t : Bor (List ℕ)). t.now) xs) i ≡ Some (get_or xs i d).now
get-map [] i d h = absurd (omega arith)
get-map (x ∷ xs) zero d h = refl
get-map (x ∷ xs) (suc i) d h = get-map xs i d (omega arith)

-- a step of the loop, which goes down the places
pub one_more_term : (sorted after : List Term) (term : Term) (names : List (List ℕ)) (place next : ℕ) → suc next ≡ place
    → after ≡ insert_key (λ a b. counted_cmp (counted a) (counted b)) sorted term
    → slice_get names next ≡ Some term.1.now → term.0 ≡ characters term.1.now
    → map counted sorted ≡ map mark (shortest_first (drop place names))
    → map counted after ≡ map mark (shortest_first (drop next names))
one_more_term sorted after term names place next down is at count same =
    let split : drop next names ≡ term.1.now ∷ drop place names = subst (λ p. drop next names ≡ term.1.now ∷ drop p names) down (drop-get names next term.1.now at) in
    rw (is, split) (counted-insert sorted term (shortest_first (drop place names)) count same)
