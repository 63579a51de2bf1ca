-- The seat that an entry belongs to: that of the session that it belongs to. The list alone tells it, also
-- where the session is closed by then, and it stays as the list grows.
use Rattle.std.specs.Prelude.{ℕ, ◌==◌, if◌then◌else◌, List, [], ◌∷◌, ◌++◌, take, slice_get, Option, Some, None}
use Rattle.ld_history.specs.declared.event.Given.{Given}
use Rattle.ld_history.specs.declared.event.Event.{Event}
use Rattle.ld_history.specs.declared.event.Event.TheVariants as event
use Rattle.ld_history.specs.declared.event.Entry.{Entry}
use Rattle.ld_history.specs.Legal.{Entries, state}
use Rattle.ld_history.specs.Counts.{owner}

-- the seat in which the event opens the session of this number, or else this one
abbrev pub seat_or : Event (List ℕ) → ℕ → Option ℕ → Option ℕ
seat_or (event.Opened own seat) session later = if own == session then Some seat else later
seat_or _ session later = later

-- the seat in which the session of this number was opened
abbrev pub opened_in : Entries → ℕ → Option ℕ
opened_in [] session = None
opened_in (entry ∷ entries) session = seat_or entry.event session (opened_in entries session)

-- the seat of the session that the entry belongs to, where these came before it
abbrev pub seat_in : Entries → Entry (List ℕ) Given → Option ℕ
seat_in before entry = opened_in (before ++ entry ∷ []) (owner (state before) entry.event)

abbrev pub seat_found : Entries → Option (Entry (List ℕ) Given) → Option ℕ
seat_found before None = None
seat_found before (Some entry) = seat_in before entry

-- the seat that the entry at the place belongs to
abbrev pub seat_of : Entries → ℕ → Option ℕ
seat_of entries place = seat_found (take place entries) (slice_get entries place)
