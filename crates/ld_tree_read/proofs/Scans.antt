-- Runs of digits.
use Rattle.std.proofs.Common.{◌≡◌, ◌∙◌, refl, sym, ap, ℕ, ◌+◌, ◌<◌, List, [], ◌∷◌, take, drop, Some, arith}
use Rattle.std.specs.List.{prefix_len}
use Rattle.std.proofs.lemmas.List.{get_or-take, length-take-le}
use Rattle.std.proofs.lemmas.List.Sums.{prefix_len_passes, prefix_len-le-length}
use Rattle.ld_tree_read.specs.State.{Level}
use Rattle.ld_tree_read.specs.Digits.{AreDigits}
use Rattle.ld_tree.specs.Numbers.{is_digit}
use Rattle.ld_tree_read.specs.Refusals.{refusal, plain_refusal}
use Rattle.ld_tree_read.specs.State.{Here}
use Rattle.ld_tree_read.specs.Steps.{Digits, NoDigit}
use Rattle.ld_tree_read.proofs.Follows.{goes, no_value, run, run_ends, no_run, some_run, nowhere}

pub digits_lead : (at : ℕ) (bs : List ℕ) (here there : Here) → (prefix_len is_digit bs ≡ 0 → ⊥) → Digits bs here there → (fs : List Level)
    → refusal at fs here bs ≡ refusal (at + prefix_len is_digit bs) fs there (drop (prefix_len is_digit bs) bs)
digits_lead at [] here there some h fs = absurd (some refl)
digits_lead at (b ∷ bs) here there some h fs =
    let one = some_run is_digit b bs some in
    let still : refusal at fs there (b ∷ bs) ≡ refusal (at + 1) fs there bs = goes at fs there b bs (no_value at fs there b bs h.to) (h.more fs b one) in
    goes at fs here b bs (no_value at fs here b bs h.from) (h.first fs b bs refl one) ∙ sym still
    ∙ run is_digit there fs (λ at b bs _. no_value at fs there b bs h.to) (h.more fs) at (b ∷ bs)

pub digits_stop : (at : ℕ) (bs : List ℕ) (here there : Here) → prefix_len is_digit bs ≡ 0 → Digits bs here there → (fs : List Level) → refusal at fs here bs ≡ Some (plain_refusal at bs)
digits_stop at bs here there none h fs =
    nowhere fs here at bs h.between (h.going fs) (λ b r e. (no_value at fs here b r h.from, h.other fs b r e (no_run is_digit b r (ap (prefix_len is_digit) (sym e) ∙ none))))

pub no_digit : (bs : List ℕ) → NoDigit (drop (prefix_len is_digit bs) bs)
no_digit bs b r e = run_ends is_digit bs b r e

pub run_each : (bs : List ℕ) → AreDigits (take (prefix_len is_digit bs) bs)
run_each bs k lt =
    let le = prefix_len-le-length is_digit bs in
    let lt' : k < prefix_len is_digit bs = omega (arith, lt, length-take-le (prefix_len is_digit bs) bs le) in
    rw (get_or-take (prefix_len is_digit bs) bs k 0 lt') (prefix_len_passes is_digit bs k 0 lt')
