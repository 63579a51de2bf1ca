-- What a visit is to contracts, and what its session's turn at the book comes to.
use Rattle.std.specs.Prelude.{◌≡◌, ℕ, false, [], ◌∷◌, length, map, Some}
use mathlib.Core.List.{IsPrefix}
use Rattle.ld_turn.specs.History.{IsQuietFrom}
use Rattle.ld_turn.specs.Known.{Known, LockId}
use Rattle.ld_history.specs.Legal.{state}
use Rattle.ld_history.specs.Steps.{Answers, Taken, close_step, open_step}
use Rattle.ld_history.specs.Words.{is_taken}
use Rattle.ld_history.specs.declared.answers.OpenAnswer.TheVariants as open_answer
use Rattle.ld_history.specs.declared.limits.Limits.{Limits}
use Rattle.ld_book.specs.Pages.{Booked, Pages, after_step, history_of}
use Rattle.ld_book.specs.Said.{IsRefusal}
use Rattle.ld_book.specs.Seats.{Lines, entries_in, lines_of, seat_of}
use Rattle.ld_book.specs.declared.answers.RoomRefusal.{RoomRefusal}
use Rattle.ld_book.specs.declared.page.Line.{Line}
use Rattle.ld_moves.specs.Moving.{Finds}
use Rattle.ld_moves.specs.Stocks.{IsSound}

-- A session that is under way in a seat: the lock of the seat and its number, the number of the session, and the book as
-- the seat has seen it.
pub record Visiting : Type 0 where
  pub lock : LockId
  pub number : ℕ
  pub session : ℕ
  pub limits : Limits
  pub pages : Pages

-- what a seat has seen: the pages, and the limits of their book
abbrev pub pages_in : Lines → Pages
pages_in lines = map (λ l. l.page) lines

abbrev pub limits_in : Lines → Limits
limits_in [] = record { contexts = 0; held = 0; events = 0; bytes = 0 }
limits_in (line ∷ lines) = line.limits

-- The session had a turn. It found this book, took its step, and the visit goes on from there.
pub record Took (visit later : Visiting) (step : Booked → Pages → Type 0) : Type 0 where
  pub lock_is : later.lock ≡ visit.lock
  pub number_is : later.number ≡ visit.number
  pub session_is : later.session ≡ visit.session
  pub limits_are : later.limits ≡ visit.limits
  pub sound : IsSound visit.limits later.pages
  pub found : Booked
  pub finds : Finds visit.session visit.limits visit.pages found
  pub took : step found later.pages

-- ---- seats without a session

-- No session is under way in the seat, as far as it has seen.
abbrev pub IsFree : Known Line → Type 0
IsFree seat = is_taken (state (entries_in seat.front)) seat.number ≡ false

-- At its turn the seat finds this book: it begins with what the seat had seen, and nothing that came since is of the seat.
pub record IsFoundBy (seat : Known Line) (found : Booked) : Type 0 where
  pub grows : IsPrefix seat.front (lines_of found)
  pub quiet : IsQuietFrom seat_of (lines_of found) (length seat.front) seat.number
  pub sound : IsSound found.limits found.pages

-- A session was opened in the seat, in the book that it found at its turn. The visit goes on from there.
pub record Opened (seat : Known Line) (visit : Visiting) : Type 0 where
  pub lock_is : visit.lock ≡ seat.lock
  pub number_is : visit.number ≡ seat.number
  pub found : Booked
  pub finds : IsFoundBy seat found
  pub opens : Answers (open_step (history_of found) seat.number) (open_answer.Opened visit.session)
  pub limits_are : visit.limits ≡ found.limits
  pub pages_are : visit.pages ≡ (after_step found (open_step (history_of found) seat.number)).pages
  pub sound : IsSound visit.limits visit.pages

-- No session was opened: the history was full in the book that the seat found at its turn, or there was no memory. The seat
-- has seen that book, and is free as before.
pub record NotOpened (seat later : Known Line) (refusal : RoomRefusal) : Type 0 where
  pub lock_is : later.lock ≡ seat.lock
  pub number_is : later.number ≡ seat.number
  pub free : IsFree later
  pub found : Booked
  pub finds : IsFoundBy seat found
  pub refused : IsRefusal open_answer.HistoryFull (open_step (history_of found) seat.number) refusal
  pub front_is : later.front ≡ lines_of found

-- The visit's session was closed in the book that it found at its turn. Its seat has seen that, and is free.
pub record Closed (visit : Visiting) (later : Known Line) : Type 0 where
  pub lock_is : later.lock ≡ visit.lock
  pub number_is : later.number ≡ visit.number
  pub free : IsFree later
  pub found : Booked
  pub finds : Finds visit.session visit.limits visit.pages found
  pub closes : (t : Taken (Unit {0})) × (close_step (history_of found) visit.session ≡ Some t)
  pub front_is : later.front ≡ lines_of (after_step found (close_step (history_of found) visit.session))
  pub sound : IsSound visit.limits (after_step found (close_step (history_of found) visit.session)).pages
