-- The code's own: a visit as it takes its turn, and as it leaves it.
use Rattle.std.specs.Prelude.{◌≡◌, ℕ, ◌==◌, true, [], ◌∷◌, ◌++◌, Some}
use Rattle.ld_turn.specs.Known.{Turning}
use Rattle.ld_history.specs.After.{after}
use Rattle.ld_history.specs.Counts.{owner}
use Rattle.ld_history.specs.Legal.{Entries, state}
use Rattle.ld_history.specs.Seats.{opened_in}
use Rattle.ld_history.specs.Store.{Store}
use Rattle.ld_book.specs.Pages.{Booked, Pages, entries_of}
use Rattle.ld_book.specs.Seats.{lines_of}
use Rattle.ld_book.specs.declared.page.Line.{Line}
use Rattle.ld_moves.specs.Moving.{Finds}
use Rattle.ld_moves.specs.Stocks.{IsSound}
use Rattle.ld_visit.specs.Visits.{Visiting}

-- the visit has its turn, at the book that it found
pub record Enters (visit : Visiting) (turn : Turning Booked Line) : Type 0 where
  pub lock_is : turn.seat.lock ≡ visit.lock
  pub number_is : turn.seat.number ≡ visit.number
  pub front_is : turn.seat.front ≡ lines_of turn.value
  pub finds : Finds visit.session visit.limits visit.pages turn.value
  pub opened : opened_in (entries_of turn.value.pages) visit.session ≡ Some visit.number

-- each of the entries that follow on this state is the session's
abbrev pub AreOwn : ℕ → Store → Entries → Type 0
AreOwn session store [] = Unit {0}
AreOwn session store (entry ∷ entries) = ((owner store entry.event == session) ≡ true) × AreOwn session (after store entry) entries

-- the book began with what the turn found, and what came since is the session's
pub record Adding (session : ℕ) (turn : Turning Booked Line) : Type 0 where
  pub found : Booked
  pub front_is : turn.seat.front ≡ lines_of found
  pub limits_are : turn.value.limits ≡ found.limits
  pub since : Pages
  pub grows : found.pages ++ since ≡ turn.value.pages
  pub opened : opened_in (entries_of found.pages) session ≡ Some turn.seat.number
  pub own : AreOwn session (state (entries_of found.pages)) (entries_of since)

-- the visit goes on from what its turn left
pub record Leaves (session : ℕ) (turn : Turning Booked Line) (later : Visiting) : Type 0 where
  pub lock_is : later.lock ≡ turn.seat.lock
  pub number_is : later.number ≡ turn.seat.number
  pub session_is : later.session ≡ session
  pub limits_are : later.limits ≡ turn.value.limits
  pub pages_are : later.pages ≡ turn.value.pages
  pub sound : IsSound turn.value.limits turn.value.pages
