-- The first that is found, and lists gathered by a loop.
use Rattle.std.proofs.Common.{◌≡◌, ℕ, zero, suc, ◌<◌, List, [], ◌∷◌, Option, Some, None, drop, length, get_or, refl, ap, sym, ◌∙◌, arith, true, false, is_some, Bor, ◌+◌, add-one}
use Rattle.std.specs.Prelude.{map}
use Rattle.std.specs.Option.{option_copied}
use Rattle.ld_rec.specs.Selection.{first_some}
use Rattle.std.specs.Option.{option_or}

pub first_some-map : {X Y Z : Type 0} (f : Y → Option Z) (g : X → Y) (xs : List X) → first_some f (map g xs) ≡ first_some (λ x. f (g x)) xs
first_some-map f g [] = refl
first_some-map f g (x ∷ xs) = ap (option_or (f (g x))) (first_some-map f g xs)

pub first_some-drop : {X Y : Type 0} (f : X → Option Y) (xs : List X) (i : ℕ) (d : X) → i < length xs → first_some f (drop i xs) ≡ option_or (f (get_or xs i d)) (first_some f (drop (suc i) xs))
first_some-drop f [] i d h = absurd (omega arith)
first_some-drop f (x ∷ xs) zero d h = refl
first_some-drop f (x ∷ xs) (suc i) d h = first_some-drop f xs i d (omega arith)

option_or-found : (found : Option (Bor (List ℕ))) (x other : Option (List ℕ)) → is_some found ≡ true → option_copied found ≡ x → option_copied found ≡ option_or x other
option_or-found (Some y) x other h e = ap (λ z. option_or z other) e
option_or-found None x other h e = cc

option_or-missed : (found : Option (Bor (List ℕ))) (x other : Option (List ℕ)) → is_some found ≡ false → option_copied found ≡ x → option_or x other ≡ other
option_or-missed (Some y) x other h e = cc
option_or-missed None x other h e = ap (λ z. option_or z other) (sym e)

module _ {X : Type 0} (f : X → Option (List ℕ)) (xs : List X) (i : ℕ) (d : X) (found : Option (Bor (List ℕ))) where
  -- a loop finds at i
  pub found_here : i < length xs → is_some found ≡ true → option_copied found ≡ f (get_or xs i d) → option_copied found ≡ first_some f (drop i xs)
  found_here h some e = option_or-found found _ (first_some f (drop (suc i) xs)) some e ∙ sym (first_some-drop f xs i d h)

  -- and goes on from i
  pub not_here : i < length xs → is_some found ≡ false → option_copied found ≡ f (get_or xs i d) → first_some f (drop i xs) ≡ first_some f (drop (i + 1) xs)
  not_here h none e = rw add-one (first_some-drop f xs i d h ∙ option_or-missed found _ (first_some f (drop (suc i) xs)) none e)
