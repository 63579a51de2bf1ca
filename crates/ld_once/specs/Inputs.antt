-- An input as far as it was read.
use Rattle.std.specs.Prelude.{◌≡◌, ℕ, List, ⊤}
use Rattle.ld_edge.specs.Faults.{Rose}
use Rattle.ld_once.specs.declared.input.Input.{Input}
use Rattle.ld_once.specs.declared.input.Input.TheVariants.{Whole, TooLong}
use Rattle.ld_once.specs.declared.input.InputRefusal.{InputRefusal}
use Rattle.ld_once.specs.declared.input.InputRefusal.TheVariants.{Failed, NoMemory}

abbrev pub IfWhole : Input → (List ℕ → Type 0) → Type 0
IfWhole (Whole bytes) P = P bytes.items
IfWhole TooLong P = ⊤

abbrev pub IfTooLong : Input → Type 0 → Type 0
IfTooLong (Whole bytes) P = ⊤
IfTooLong TooLong P = P

-- the count of failures rose where a read failed, and stayed where memory was wanting
abbrev pub IsCountFor : InputRefusal → ℕ → ℕ → Type 0
IsCountFor Failed before after = Rose before after
IsCountFor NoMemory before after = after ≡ before
