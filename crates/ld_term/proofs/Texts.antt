-- The ends of a text.
use Rattle.std.proofs.Common.{◌≡◌, ◌+◌, ◌-◌, ℕ, zero, suc, List, [], ◌∷◌, length, take, Option, Some, None, Bool, false, refl, sym, ap, ◌∙◌, arith}
use Rattle.std.specs.Prelude.{slice_get}
use Rattle.ld_rec.specs.Terms.{ends_in_gen_delim, is_gen_delim, without_last}

by_last : Option ℕ → Bool
by_last None = false
by_last (Some b) = is_gen_delim b

ends_at : (xs : List ℕ) → ends_in_gen_delim xs ≡ by_last (slice_get xs (length xs - 1))
unfolding by_last
ends_at [] = refl
ends_at (b ∷ []) = refl
ends_at (b ∷ c ∷ rest) = let e : length (b ∷ c ∷ rest) - 1 ≡ suc (length (c ∷ rest) - 1) = omega arith in ends_at (c ∷ rest) ∙ ap (λ n. by_last (slice_get (b ∷ c ∷ rest) n)) (sym e)

pub ends_some : (xs : List ℕ) (b : ℕ) → slice_get xs (length xs - 1) ≡ Some b → ends_in_gen_delim xs ≡ is_gen_delim b
unfolding by_last
ends_some xs b e = ends_at xs ∙ ap by_last e

pub ends_none : (xs : List ℕ) → slice_get xs (length xs - 1) ≡ None → ends_in_gen_delim xs ≡ false
unfolding by_last
ends_none xs e = ends_at xs ∙ ap by_last e

pub without_last_take : (xs : List ℕ) → without_last xs ≡ take (length xs - 1) xs
without_last_take [] = refl
without_last_take (b ∷ []) = refl
without_last_take (b ∷ c ∷ rest) = let e : length (b ∷ c ∷ rest) - 1 ≡ suc (length (c ∷ rest) - 1) = omega arith in ap (λ l. b ∷ l) (without_last_take (c ∷ rest)) ∙ ap (λ n. take n (b ∷ c ∷ rest)) (sym e)
