-- The room that what is begun may still take.
use Rattle.std.specs.Prelude.{ℕ, ◌+◌, ◌==◌, if◌then◌else◌, List, length}
use Rattle.std.specs.List.{sum_by}
use Rattle.ld_history.specs.declared.event.Event.{Event}
use Rattle.ld_history.specs.declared.event.Event.TheVariants as event
use Rattle.ld_history.specs.declared.session.Session.{Session}
use Rattle.ld_history.specs.Legal.{state, Entries}
use Rattle.ld_history.specs.Counts.{reserve}

-- the entries, with what each request under way may still append of 320, and with one for each open session
abbrev pub promised_to : List (ℕ × Session) → Entries → ℕ
promised_to sessions entries = length entries + sum_by (reserve entries) sessions + length sessions

abbrev pub promised : Entries → ℕ
promised entries = promised_to (state entries).sessions entries

-- by how much an event lets that rise at most: an Opened by itself and its Closed, a request's first Pinned
-- by the request's 320
abbrev pub rise : Event (List ℕ) → ℕ
rise (event.Opened session seat) = 2
rise (event.Pinned session request attempt version) = if attempt == 1 then 320 else 0
rise _ = 0
