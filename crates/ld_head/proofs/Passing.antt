-- A head as its bytes come.
use Rattle.std.proofs.Common.{◌≡◌, ℕ, ◌+◌, ◌≤◌, List, [], ◌∷◌, ◌++◌, length, take, drop, ◌∙◌, arith}
use Rattle.std.proofs.lemmas.Bool.{le-leb, cond-true}
use Rattle.std.proofs.lemmas.List.{length-append, length-take-le}
use Rattle.ld_head.specs.declared.finding.Place.{Place}
use Rattle.ld_head.specs.Dialogues.{TooLong, front_from}

-- where the head has its most bytes, it is too long
full_from : (seen : List ℕ) (place : Place) (bytes : List ℕ) → 16384 ≤ length seen → front_from seen place bytes ≡ TooLong
full_from seen place [] full = cond-true _ _ _ (le-leb _ _ full)
full_from seen place (b ∷ bs) full = cond-true _ _ _ (le-leb _ _ full)

-- i bytes of the piece were passed, and led to the place `now`
abbrev pub Passed : ℕ → Place → List ℕ → ℕ → Place → Type 0
Passed seen place piece i now =
    (before more : List ℕ) → length before ≡ seen
    → front_from before place (piece ++ more) ≡ front_from (before ++ take i piece) now (drop i piece ++ more)

module _ (seen : ℕ) (place now : Place) (piece : List ℕ) (i : ℕ) (passed : Passed seen place piece i now) where
  pub too_long : i ≤ length piece → 16384 ≤ seen + i → (before : List ℕ) → length before ≡ seen → (more : List ℕ) → front_from before place (piece ++ more) ≡ TooLong
  too_long inside full before e more =
      let count = length-append before (take i piece) in
      let taken = length-take-le i piece inside in
      passed before more e ∙ full_from (before ++ take i piece) now _ (omega arith)
