-- A text with a colon after its first character is split at its first colon.
use Rattle.std.proofs.Common.{◌≡◌, ◌<◌, ◌+◌, refl, sym, ap, ◌∙◌, ℕ, List, [], ◌∷◌, length, Option, Some, None, Bool, true, false, true≢false, cond, Bor, arith, ap₂, ◌||◌, not}
use Rattle.std.specs.Prelude.{if◌then◌else◌}
use Rattle.std.specs.List.{prefix_len, position_or_len, before_first, after_first, list_any}
use Rattle.std.specs.Option.{MatchOption}
use Rattle.ld_rec.specs.Iris.{parts, is_colon, has_inner_colon}
use Rattle.ld_ctx.specs.Parts.{texts}

-- an item that passes stands within the list
pub position_within : {X : Type 0} (p : X → Bool) (xs : List X) → list_any p xs ≡ true → position_or_len p xs < length xs
position_within p [] h = absurd (true≢false (sym h))
position_within p (x ∷ xs) h = elim (p x) as (λ b. (b || list_any p xs) ≡ true → cond (not b) (1 + prefix_len (λ y. not (p y)) xs) 0 < length (x ∷ xs)) [
  | true ↦ λ _. omega arith
  | false ↦ λ k. let within = position_within p xs k in omega arith
] h

inner_after : (b : ℕ) (bs : List ℕ) → list_any is_colon bs ≡ true → list_any is_colon (b ∷ bs) ≡ true
inner_after b bs h = elim (is_colon b) as (λ v. (v || list_any is_colon bs) ≡ true) [ true ↦ refl | false ↦ h ]

pub inner_within : (text : List ℕ) → has_inner_colon text ≡ true → position_or_len is_colon text < length text
inner_within [] h = absurd (true≢false (sym h))
inner_within (b ∷ bs) h = position_within is_colon (b ∷ bs) (inner_after b bs h)

pub split_is_parts : (text : List ℕ) (r : Option (Bor (List ℕ) × Bor (List ℕ))) → has_inner_colon text ≡ true
    → MatchOption r (position_or_len is_colon text ≡ length text) (λ x. (position_or_len is_colon text < length text) × (x.0.now ≡ before_first is_colon text) × (x.1.now ≡ after_first is_colon text))
    → texts r ≡ parts text
unfolding parts
split_is_parts text None inner h = let within = inner_within text inner in absurd (omega arith)
split_is_parts text (Some x) inner h =
    ap₂ (λ front back. Some (front, back)) h.1 h.2 ∙ ap (λ b. if b then Some (before_first is_colon text, after_first is_colon text) else None) (sym inner)
