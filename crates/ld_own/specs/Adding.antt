-- What a session has added between two fronts of the history.
use Rattle.std.specs.Prelude.{◌≡◌, ℕ, ◌++◌, List}
use Rattle.ld_history.specs.Legal.{Entries, state}
use Rattle.ld_own.specs.Own.{Placed, own_placed_from}

-- The later front begins with the front, and of what came since these entries are the session's, and no others.
pub record Adds (session : ℕ) (front : Entries) (mine : List Placed) (later : Entries) : Type 0 where
  pub since : Entries
  pub is : front ++ since ≡ later
  pub own : own_placed_from (state front) session since ≡ mine
