-- What is told of the two sides of an object.
use Rattle.std.specs.Prelude.{◌≡◌, ℕ, Bool, List, Option}

-- the side that bytes come from
pub record Incoming : Type 0 where
  -- the bytes that were read so far, where they are told
  pub given : Option (List ℕ)
  -- the bytes that are left to read, where they are told
  pub left : Option (List ℕ)
  -- the end of the input was met
  pub is_ended : Bool
  -- how many reads failed
  pub faults : ℕ

-- the side that bytes go to
pub record Outgoing : Type 0 where
  -- the bytes that were taken so far, where they are told
  pub held : Option (List ℕ)
  -- how many writes failed
  pub faults : ℕ

-- what is told of the bytes is as it was
abbrev pub KeepsBytes : Incoming → Incoming → Type 0
KeepsBytes before after = (after.given ≡ before.given) × (after.left ≡ before.left) × (after.is_ended ≡ before.is_ended)
