-- What seats and notes know, as contracts see them.
use Rattle.std.specs.Prelude.{◌≡◌, ℕ, ◌≤◌, List, All}
use mathlib.Core.List.{IsPrefix}
use Rattle.atomic_table.specs.Seated.{TableId}

-- which lock: two locks have never the same
abbrev pub LockId : Type 0
LockId = TableId

-- what a seat knows
pub record Known (E : Type 0) : Type 0 where
  -- its lock
  pub lock : LockId
  -- its number
  pub number : ℕ
  -- so many seats of the lock had been made when it last looked
  pub made : ℕ
  -- the beginning of the history that it has seen
  pub front : List E
  -- the places of its own entries there, in order
  pub own : List ℕ

-- what a note tells: its lock, and the front of the seat that wrote it
pub record Noted (E : Type 0) : Type 0 where
  pub lock : LockId
  pub front : List E

-- a turn: the seat that has it, with the front that it found, and the value
pub record Turning (V E : Type 0) : Type 0 where
  pub seat : Known E
  pub value : V

module _ {E : Type 0} where
  -- the same seat, which has looked again how many seats were made
  abbrev pub IsRecounted : Known E → Known E → Type 0
  IsRecounted old new = (new ≡ record old { made = new.made }) × (old.made ≤ new.made)

  -- what each seat has seen is a beginning of the history
  abbrev pub AllSaw : List E → List (Known E) → Type 0
  AllSaw log seats = All (λ (k : Known E). IsPrefix k.front log) seats
