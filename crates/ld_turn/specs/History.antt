-- Whose the entries of a history are. `seat_of log i` is the number of the seat to which the entry at place i belongs, if it belongs to one.
use Rattle.std.specs.Prelude.{◌≡◌, ◌≢◌, ℕ, zero, suc, ◌-◌, ◌<◌, ◌≤◌, List, [], ◌∷◌, ◌++◌, length, Option, Some, None, Contains}
use Rattle.std.specs.List.{range_with_len}
use Rattle.std.proofs.Common.{refl, arith}

module _ {E : Type 0} (seat_of : List E → ℕ → Option ℕ) where
  -- the entries that belong to the seat of this number stand at its own places, and none of those belongs to another seat
  pub record Owns (log : List E) (number : ℕ) (own : List ℕ) : Type 0 where
    pub all : (i : ℕ) → i < length log → seat_of log i ≡ Some number → Contains own i
    pub only : (i k : ℕ) → Contains own i → seat_of log i ≡ Some k → k ≡ number
    pub within : (i : ℕ) → Contains own i → i < length log

  -- no entry from a place on belongs to the seat of this number
  abbrev pub IsQuietFrom : List E → ℕ → ℕ → Type 0
  IsQuietFrom log from number = (i : ℕ) → from ≤ i → i < length log → seat_of log i ≢ Some number

  -- each entry from a place on belongs to the seat of this number, or to none
  abbrev pub IsOwnFrom : List E → ℕ → ℕ → Type 0
  IsOwnFrom log from number = (i k : ℕ) → from ≤ i → i < length log → seat_of log i ≡ Some k → k ≡ number

  -- no entry belongs to a seat
  abbrev pub IsNobodys : List E → Type 0
  IsNobodys log = (i : ℕ) → i < length log → seat_of log i ≡ None

-- the places of the seat's own entries, after a turn that found a front and left a later one
abbrev pub own_after : {E : Type 0} → List ℕ → List E → List E → List ℕ
own_after own front later = own ++ range_with_len (length front) (length later - length front)

-- for a history whose entries say themselves to which seat they belong
abbrev pub said_by : {E : Type 0} → (E → Option ℕ) → List E → ℕ → Option ℕ
said_by seat [] i = None
said_by seat (x ∷ xs) zero = seat x
said_by seat (x ∷ xs) (suc i) = said_by seat xs i

pub said_by_stays : {E : Type 0} (seat : E → Option ℕ) (xs ys : List E) (i : ℕ) → i < length xs → said_by seat (xs ++ ys) i ≡ said_by seat xs i
said_by_stays seat [] ys i lt = absurd (omega (arith, lt))
said_by_stays seat (x ∷ xs) ys zero lt = refl
said_by_stays seat (x ∷ xs) ys (suc i) lt = said_by_stays seat xs ys i (omega (arith, lt))
