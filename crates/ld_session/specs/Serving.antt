-- What a session has done when it ends.
use Rattle.std.specs.Prelude.{◌≡◌, ℕ, false, List, [], ◌∷◌, ◌++◌, length, take, Option, Some, None}
use mathlib.Core.List.{IsPrefix}
use Rattle.ld_edge.specs.Faults.{NeverFalls, Rose}
use Rattle.ld_edge.specs.Passing.{Goes, GoesInPart}
use Rattle.ld_edge.specs.Sides.{Incoming, Outgoing}
use Rattle.ld_fits.specs.Asks.{Heard}
use Rattle.ld_fits.specs.Fits.{Fits}
use Rattle.ld_fits.specs.Play.{Stage}
use Rattle.ld_flight.specs.Loads.{Loading}
use Rattle.ld_flight.specs.declared.given.Given as loader
use Rattle.ld_head.specs.declared.session_end.SessionEnd.{SessionEnd}
use Rattle.ld_head.specs.declared.session_end.SessionEnd.TheVariants as end
use Rattle.ld_history.specs.Legal.{state}
use Rattle.ld_history.specs.Words.{history_has_room}
use Rattle.ld_history.specs.declared.limits.Limits.{Limits}
use Rattle.ld_book.specs.Pages.{Pages, entries_of}
use Rattle.ld_book.specs.declared.answers.RoomRefusal.{RoomRefusal}
use Rattle.ld_book.specs.declared.answers.RoomRefusal.TheVariants as room
use Rattle.ld_own.specs.Loads.{Gained, Spans}
use Rattle.ld_own.specs.Own.{Placed, own_placed}
use Rattle.ld_moves.specs.Moving.{Moves, place}
use Rattle.ld_moves.specs.Stocks.{IsSound, stocks}
use Rattle.ld_talk.specs.Talking.{EndsSo, full_text, marked_in, no_memory_text}
use Rattle.ld_visit.specs.Visits.{Visiting}

-- ---- on its way

-- Between these visits the session was moved from one stage to another, while its loader went from this to that.
pub record Moved (visit later : Visiting) (before after : Loading) (from to : Stage) : Type 0 where
  pub lock_is : later.lock ≡ visit.lock
  pub number_is : later.number ≡ visit.number
  pub session_is : later.session ≡ visit.session
  pub moves : Moves visit.session (place visit.limits visit.pages before.given before.faults from) (place later.limits later.pages after.given after.faults to)

-- in a book whose rules hold
abbrev pub Moving : (visit later : Visiting) (before after : Loading) → (from to : Stage) → Type 0
Moving visit later before after from to = IsSound visit.limits visit.pages → Moved visit later before after from to

-- These pages are so many, and have no room for one more request.
pub record IsFull (limits : Limits) (pages : Pages) (events : ℕ) : Type 0 where
  pub count : length pages ≡ events
  pub full : history_has_room limits (state (entries_of pages)) ≡ false

-- ---- at its end

-- The book was full once: after so many of its pages, which hold all that the seat had seen at the start.
pub record WasFull (limits : Limits) (start pages : Pages) (events : ℕ) : Type 0 where
  pub front : Pages
  pub seen : IsPrefix start front
  pub grows : IsPrefix front pages
  pub full : IsFull limits front events

-- Those pages hold all entries of the session but the last, by which it was closed.
pub record HadNoRoom (limits : Limits) (start pages : Pages) (session events : ℕ) : Type 0 where
  pub was : WasFull limits start pages events
  pub last : Placed
  pub own : own_placed session (entries_of pages) ≡ own_placed session (entries_of was.front) ++ last ∷ []

-- A session was opened and closed in the book of these pages, which go on from those that its seat had seen. Its requests
-- stand there once each, in order, and each is answered as the algorithms say over the version of its last pin. What came
-- and went are its items and their texts, or a front of them, as its end says. What its loader gave are the answers of the
-- flights that it led, and the loader failed where these failed, one after another.
pub record IsServed (limits : Limits) (start pages : Pages) (session : ℕ) (came went : List ℕ) (source : Incoming) (before after : Loading) (e : SessionEnd) : Type 0 where
  pub seen : IsPrefix start pages
  pub heard : List Heard
  pub text : List ℕ
  pub fits : Fits limits (stocks pages) (entries_of pages) session (marked_in heard) text
  pub ends : EndsSo (HadNoRoom limits start pages session) came went source heard text e
  pub gained : List loader.Given
  pub gives : Gained (own_placed session (entries_of pages)) gained
  pub given_are : after.given ≡ before.given ++ gained
  pub spans : Spans before.faults (own_placed session (entries_of pages)) after.faults

-- ---- without a session

-- What goes out where no session was opened, for this reason: the reply that says so, or a front of it.
abbrev pub TurnsAway : RoomRefusal → Outgoing → Outgoing → SessionEnd → Type 0
TurnsAway refusal sink sink' (end.HistoryFull events) = (refusal ≡ room.HistoryFull events) × Goes sink sink' (full_text events) × (sink'.faults ≡ sink.faults)
TurnsAway refusal sink sink' end.WriteFault = (events : ℕ) × (refusal ≡ room.HistoryFull events) × GoesInPart sink sink' (full_text events) × Rose sink.faults sink'.faults
TurnsAway refusal sink sink' end.NoMemory = (n : ℕ) × Goes sink sink' (take n no_memory_text) × NeverFalls sink.faults sink'.faults
TurnsAway refusal sink sink' _ = ⊥

-- No session was opened: the book was full when it had these first pages, or there was no memory. Nothing was read, and the
-- reply that says so went out, or a front of it. The limits are those of the book that was found.
pub record IsTurnedAway (start pages : Pages) (came went : List ℕ) (source : Incoming) (before after : Loading) (e : SessionEnd) : Type 0 where
  pub limits : Limits
  pub unread : came ≡ []
  pub unchanged : after ≡ before
  pub ends : EndsSo (WasFull limits start pages) [] went source [] [] e

-- What came of a connection, in a book that goes on from what its seat has seen by then.
abbrev pub IsConnection : (session : Option ℕ) → Limits → (start pages : Pages) → (came went : List ℕ) → Incoming → (before after : Loading) → SessionEnd → Type 0
IsConnection (Some session) limits start pages came went source before after e = IsServed limits start pages session came went source before after e
IsConnection None limits start pages came went source before after e = IsTurnedAway start pages came went source before after e
