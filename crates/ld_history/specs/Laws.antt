-- What the laws say of the state after a history.
use Rattle.std.specs.Prelude.{◌≡◌, ℕ, ◌+◌, ◌≤◌, IsTrue, IsFalse, List, length, Option, Some, None}
use Rattle.ld_history.specs.declared.limits.Limits.{Limits}
use Rattle.ld_history.specs.declared.event.Given.{Given}
use Rattle.ld_history.specs.declared.event.Entry.{Entry}
use Rattle.ld_history.specs.declared.session.Session.{Session}
use Rattle.ld_history.specs.declared.session.Last.{Last}
use Rattle.ld_history.specs.declared.session.Last.TheVariants as last
use Rattle.ld_history.specs.declared.session.Flight.{Flight}
use Rattle.ld_history.specs.Store.{Store}
use Rattle.ld_history.specs.Words.{at_number, flight_at, is_under_way, is_published, holds}
use Rattle.ld_history.specs.Legal.{Entries, is_allowed}

-- the flight of this number is under way
abbrev pub IsUnderWay : Store → ℕ → Flight → Type 0
IsUnderWay store number flight = (flight_at store.flights number ≡ Some flight) × IsTrue (is_under_way flight.end)

-- the session is open, as s
abbrev pub IsOpenAs : Store → ℕ → Session → Type 0
IsOpenAs store session s = at_number store.sessions session ≡ Some s

-- the session is open and holds the IRI
pub record IsHolder (store : Store) (session : ℕ) (iri : List ℕ) : Type 0 where
  pub s : Session
  pub is : IsOpenAs store session s
  pub has : IsTrue (holds s iri)

-- no flight that the session led is under way
abbrev pub LeadsNothing : Store → ℕ → Type 0
LeadsNothing store session = (number : ℕ) (flight : Flight) → IsUnderWay store number flight → flight.session ≡ session → ⊥

-- the flight that the session waits for, if its last own event is Led or Joined
abbrev pub awaited : Last → Option ℕ
awaited (last.Led flight) = Some flight
awaited (last.Joined flight) = Some flight
awaited _ = None

-- the session's last own event is Led or Joined of a flight for the IRI, which ended unpublished
pub record WasLeft (store : Store) (s : Session) (iri : List ℕ) : Type 0 where
  pub number : ℕ
  pub flight : Flight
  pub waits : awaited s.last ≡ Some number
  pub is : flight_at store.flights number ≡ Some flight
  pub for_iri : flight.iri ≡ iri
  pub over : IsFalse (is_under_way flight.end)
  pub unpublished : IsFalse (is_published flight.end)

-- the entry is allowed after these, and within the limit
pub record MayFollow (limits : Limits) (entries : Entries) (entry : Entry (List ℕ) Given) : Type 0 where
  pub allowed : IsTrue (is_allowed limits entries entry)
  pub room : length entries + 1 ≤ limits.events
