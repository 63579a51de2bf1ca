-- Heads that come in pieces.
use Rattle.std.specs.Prelude.{◌≡◌, ℕ, ◌≤◌, List, ◌++◌, length, drop}
use Rattle.ld_head.specs.declared.coming.Came.{Came}
use Rattle.ld_head.specs.declared.coming.Came.TheVariants as came
use Rattle.ld_head.specs.Dialogues.{Whole, TooLong, front}

-- what the bytes and a piece say, whatever comes after them
abbrev pub Comes : List ℕ → List ℕ → Came → Type 0
Comes seen piece (came.Whole block used) = (used ≤ length piece) × ((more : List ℕ) → front (seen ++ (piece ++ more)) ≡ Whole block (drop used piece ++ more))
Comes seen piece came.TooLong = (more : List ℕ) → front (seen ++ (piece ++ more)) ≡ TooLong
Comes seen piece (came.More begun) = begun ≡ seen ++ piece
Comes seen piece came.NoMemory = Unit {0}
