-- A session's own entries, each in the state before it.
use Rattle.std.specs.Prelude.{ℕ, ◌==◌, if◌then◌else◌, List, [], ◌∷◌, ◌++◌}
use Rattle.ld_history.specs.declared.event.Given.{Given}
use Rattle.ld_history.specs.declared.event.Entry.{Entry}
use Rattle.ld_history.specs.After.{after}
use Rattle.ld_history.specs.Counts.{owner}
use Rattle.ld_history.specs.Legal.{Entries}
use Rattle.ld_history.specs.Store.{Store, empty_store}

-- an entry, and the state after all entries before it
pub record Placed : Type 0 where
  pub before : Store
  pub entry : Entry (List ℕ) Given

abbrev pub placed : Store → Entry (List ℕ) Given → Placed
placed before entry = record { before = before; entry = entry }

-- of the entries that follow on this state, those that belong to the session
abbrev pub own_placed_from : Store → ℕ → Entries → List Placed
own_placed_from store session [] = []
own_placed_from store session (entry ∷ entries) =
    (if owner store entry.event == session then placed store entry ∷ [] else []) ++ own_placed_from (after store entry) session entries

abbrev pub own_placed : ℕ → Entries → List Placed
own_placed session entries = own_placed_from empty_store session entries
