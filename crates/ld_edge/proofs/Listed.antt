-- What a search in sorted numbers says of whether a number is among them.
use Rattle.std.proofs.Common.{◌≡◌, ◌↔◌, ◌<◌, ◌≤◌, ◌∙◌, ℕ, IsTrue, Contains, List, length, get_or, Result, Ok, Err, MatchResult, is_ok, refl, arith, ⊎_elim}
use Rattle.std.proofs.lemmas.Bool.{cases_lt}
use Rattle.std.proofs.lemmas.List.{get_or_default}

pub found_iff_listed : (xs : List ℕ) (x : ℕ) (r : Result ℕ ℕ)
    → MatchResult r (λ i. (i < length xs) × (get_or xs i 0 ≡ x)) (λ i. (i ≤ length xs) × ((k : ℕ) → k < i → get_or xs k 0 < x) × ((k : ℕ) → i ≤ k → k < length xs → x < get_or xs k 0))
    → IsTrue (is_ok r) ↔ Contains xs x
found_iff_listed xs x (Ok i) h = (λ _. (i, h.0, get_or_default xs i x 0 h.0 ∙ h.1), λ _. refl)
found_iff_listed xs x (Err i) h = (
  λ e. cc,
  λ l.
      let same = get_or_default xs l.0 x 0 l.1 in
      absurd (⊎_elim (λ below. omega (arith, same, l.2, h.1 l.0 below)) (λ above. omega (arith, same, l.2, h.2 l.0 above l.1)) (cases_lt l.0 i)),
)
