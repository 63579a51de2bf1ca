-- Which definitions are protected, by place.
use Rattle.std.proofs.Common.{◌≡◌, ℕ, zero, suc, List, [], ◌∷◌, ◌++◌, Bool, map, take, length, refl, sym, ap, ◌∙◌, Some}
use Rattle.std.specs.Prelude.{◌||◌, slice_get}
use Rattle.std.specs.Option.{option_map}
use Rattle.std.specs.List.{list_any}
use Rattle.std.proofs.lemmas.List.{length-append}
use Rattle.ld_ctx.proofs.ByPlace.{take_next}

pub get_map : {A B : Type 0} (f : A → B) (xs : List A) (i : ℕ) → slice_get (map f xs) i ≡ option_map f (slice_get xs i)
get_map f [] i = refl
get_map f (x ∷ xs) zero = refl
get_map f (x ∷ xs) (suc i) = get_map f xs i

-- one item more
pub one_longer : {A : Type 0} (all xs ys : List A) (x : A) → ys ≡ xs ++ x ∷ [] → xs ≡ take (length xs) all → Some x ≡ slice_get all (length xs) → ys ≡ take (length ys) all
one_longer all xs ys x is h at =
    is ∙ ap (λ l. l ++ x ∷ []) h ∙ take_next all (length xs) x at ∙ ap (λ n. take n all) (sym (ap length is ∙ length-append xs (x ∷ [])))

pub any_map : {A : Type 0} (f : A → Bool) (xs : List A) → list_any (λ b. b) (map f xs) ≡ list_any f xs
any_map f [] = refl
any_map f (x ∷ xs) = ap (λ b. f x || b) (any_map f xs)
