-- The state after one more entry. An entry that isn't allowed leaves a state of no meaning.
use Rattle.std.specs.Prelude.{◌≡◌, ℕ, zero, suc, ◌+◌, ◌^◌, ◌<◌, ◌≤◌, ◌==◌, if◌then◌else◌, List, [], ◌∷◌, ◌++◌, length, Option, Some, None, true, false, is_some, slice_set}
use Rattle.std.specs.Ordering.{nat_cmp}
use Rattle.std.specs.Map.{set_value, remove_entry}
use Rattle.std.specs.BTreeMap.{is_at, insert_entry}
use Rattle.ld_tree.specs.Names.{name_cmp}
use Rattle.ld_history.specs.declared.event.Given.{Given}
use Rattle.ld_history.specs.declared.event.Event.{Event}
use Rattle.ld_history.specs.declared.event.Event.TheVariants as event
use Rattle.ld_history.specs.declared.event.Entry.{Entry}
use Rattle.ld_history.specs.declared.session.Session.{Session}
use Rattle.ld_history.specs.declared.session.Last.{Last}
use Rattle.ld_history.specs.declared.session.Last.TheVariants as last
use Rattle.ld_history.specs.declared.session.Flight.{Flight}
use Rattle.ld_history.specs.declared.session.Kind.{Kind}
use Rattle.ld_history.specs.declared.session.Kind.TheVariants as kind
use Rattle.ld_history.specs.declared.session.End.{End}
use Rattle.ld_history.specs.declared.session.End.TheVariants as end
use Rattle.ld_history.specs.declared.session.Eviction.{Eviction}
use Rattle.ld_history.specs.Store.{Store}
use Rattle.ld_history.specs.Words.{at_number, at_iri, flight_at, is_lead, is_stored, places, is_taken, is_next_out}
use Rattle.ld_history.specs.Rules.{may_close}

-- with the value at its key, in place of a former one
abbrev pub put_number : {X : Type 0} → List (ℕ × X) → ℕ → X → List (ℕ × X)
put_number entries n value = insert_entry nat_cmp entries n value

abbrev pub put_iri : {X : Type 0} → List (List ℕ × X) → List ℕ → X → List (List ℕ × X)
put_iri entries iri value = insert_entry name_cmp entries iri value

-- without what stands at the key
abbrev pub take_number : {X : Type 0} → List (ℕ × X) → ℕ → List (ℕ × X)
take_number entries n = remove_entry (is_at (nat_cmp n)) entries

abbrev pub take_iri : {X : Type 0} → List (List ℕ × X) → List ℕ → List (List ℕ × X)
take_iri entries iri = remove_entry (is_at (name_cmp iri)) entries

-- the open sessions, where that of this number is changed
abbrev pub change_found : List (ℕ × Session) → ℕ → (Session → Session) → Option Session → List (ℕ × Session)
change_found sessions number change None = sessions
change_found sessions number change (Some s) = set_value (is_at (nat_cmp number)) sessions (change s)

abbrev pub changed : List (ℕ × Session) → ℕ → (Session → Session) → List (ℕ × Session)
changed sessions number change = change_found sessions number change (at_number sessions number)

-- with this last own event
abbrev pub told : List (ℕ × Session) → ℕ → Last → List (ℕ × Session)
told sessions number last = changed sessions number (λ s. record s { last = last })

-- and with one more IRI held
abbrev pub holding : List (ℕ × Session) → ℕ → List ℕ → Last → List (ℕ × Session)
holding sessions number iri last = changed sessions number (λ s. record s { held = s.held ++ iri ∷ []; last = last })

-- the IRI's turns, with one more
abbrev pub turn_found : List (List ℕ × List ℕ) → List ℕ → ℕ → Option (List ℕ) → List (List ℕ × List ℕ)
turn_found turns iri version None = turns
turn_found turns iri version (Some before) = set_value (is_at (name_cmp iri)) turns (before ++ version ∷ [])

abbrev pub turned : List (List ℕ × List ℕ) → List ℕ → ℕ → List (List ℕ × List ℕ)
turned turns iri version = turn_found turns iri version (at_iri turns iri)

-- with an entry for the IRI, of no turns where it is new
abbrev pub named : List (List ℕ × List ℕ) → List ℕ → List (List ℕ × List ℕ)
named turns iri = if is_some (at_iri turns iri) then turns else put_iri turns iri []

-- the flights, with one more
abbrev pub begun : List Flight → List ℕ → Kind → ℕ → List Flight
begun flights iri kind session = flights ++ (record { iri = iri; kind = kind; session = session; end = end.UnderWay }) ∷ []

abbrev pub end_at : List Flight → ℕ → End → Option Flight → List Flight
end_at flights place how None = flights
end_at flights place how (Some f) = slice_set flights place (record f { end = how })

-- the flights, where this one has ended so
abbrev pub ended_as : List Flight → ℕ → End → List Flight
ended_as flights zero how = flights
ended_as flights (suc place) how = end_at flights place how (flight_at flights (suc place))

-- 1 Opened
abbrev pub after_opened : Store → ℕ → ℕ → Store
after_opened store session seat = record store {
  opened = session;
  sessions = put_number store.sessions session (record { seat = seat; request = 0; attempt = 0; version = 0; held = []; last = last.Idle });
}

-- 2 Pinned
abbrev pub after_pinned : Store → ℕ → ℕ → ℕ → ℕ → Store
after_pinned store session request attempt version = record store {
  sessions = changed store.sessions session (λ s. record s { request = request; attempt = attempt; version = version; last = last.Pinned });
}

-- 3 Found
abbrev pub after_found : Store → ℕ → List ℕ → Store
after_found store session iri = record store { sessions = holding store.sessions session iri last.Found }

-- 4 Led. The IRI's length counts where it was never led before.
abbrev pub after_led : Store → ℕ → List ℕ → ℕ → Store
after_led store session iri flight = record store {
  bytes = if is_some (at_iri store.turns iri) then store.bytes else store.bytes + length iri;
  turns = named store.turns iri;
  flights = begun store.flights iri kind.Lead session;
  leads = put_iri store.leads iri (record { flight = flight; session = session });
  sessions = holding store.sessions session iri (last.Led flight);
}

-- 5 Joined
abbrev pub after_joined : Store → ℕ → List ℕ → ℕ → Store
after_joined store session iri flight = record store { sessions = holding store.sessions session iri (last.Joined flight) }

-- a flight has ended so, and is under way no more
abbrev pub landed : Store → ℕ → End → Flight → Store
landed store flight how f = record store {
  flights = ended_as store.flights flight how;
  leads = if is_lead f.kind then take_iri store.leads f.iri else store.leads;
  revisions = if is_lead f.kind then store.revisions else take_iri store.revisions f.iri;
}

-- what a text of this length counts: an oversize one isn't kept
abbrev pub kept_length : ℕ → ℕ
kept_length length = if length == 1048577 then 0 else length

-- a flight's answer stands in the store, in place of a former one
abbrev pub answered_by : Store → ℕ → ℕ → Given → Flight → Store
answered_by store flight version given f = record (landed store flight (end.Published version) f) {
  version = version;
  bytes = store.bytes + kept_length given.length;
  stored = put_iri store.stored f.iri (record { flight = flight; version = version; answer = given });
  turns = if is_stored store f.iri then store.turns else turned store.turns f.iri version;
}

-- what is done with the flight of this number, where it is one
abbrev pub with_flight : Store → (Flight → Store) → Option Flight → Store
with_flight store change None = store
with_flight store change (Some f) = change f

-- 6 Published
abbrev pub after_published : Store → ℕ → ℕ → Given → Store
after_published store flight version given = with_flight store (answered_by store flight version given) (flight_at store.flights flight)

-- 7 Failed, 8 Lapsed, 11 Same
abbrev pub after_landed : Store → ℕ → End → Store
after_landed store flight how = with_flight store (landed store flight how) (flight_at store.flights flight)

-- 9 Evicted
abbrev pub after_evicted : Store → ℕ → List ℕ → ℕ → Store
after_evicted store session iri version = record store {
  version = version;
  stored = take_iri store.stored iri;
  turns = turned store.turns iri version;
  sessions = told store.sessions session (last.Evicted version);
}

-- 10 ReviseLed
abbrev pub after_revise_led : Store → ℕ → List ℕ → ℕ → Store
after_revise_led store session iri flight = record store {
  flights = begun store.flights iri kind.Revise session;
  revisions = put_iri store.revisions iri (record { flight = flight; session = session });
  sessions = told store.sessions session (last.ReviseLed flight);
}

-- 12 Answered
abbrev pub after_answered : Store → ℕ → Store
after_answered store session = record store { sessions = changed store.sessions session (λ s. record s { held = []; last = last.Idle }) }

-- 13 Closed
abbrev pub after_closed : Store → ℕ → Store
after_closed store session = record store { sessions = take_number store.sessions session }

-- What a change relies on. An Opened: the number is the next, and the seat is free. A Led: no flight is
-- under way for its IRI, and the bytes that it counts can be told. A Published: its version comes after the
-- current one, and the bytes that it counts can be told. An Evicted: its version isn't before the current
-- one. A Closed: the session is open and has no request under way.
abbrev pub ReliesOn : Store → Event (List ℕ) → Type 0
ReliesOn store (event.Opened session seat) = (session ≡ store.opened + 1) × (is_taken store seat ≡ false)
ReliesOn store (event.Led session iri flight) = (at_iri store.leads iri ≡ None) × (store.bytes + length iri < 2 ^ 64)
ReliesOn store (event.Published flight version) = (store.version < version) × (store.bytes < 2 ^ 63)
ReliesOn store (event.Evicted session iri version) = store.version ≤ version
ReliesOn store (event.Closed session) = may_close store session ≡ true
ReliesOn store _ = Unit {0}

abbrev pub after_published_with : Store → ℕ → ℕ → Option Given → Store
after_published_with store flight version None = store
after_published_with store flight version (Some given) = after_published store flight version given

abbrev pub after_event : Store → Option Given → Event (List ℕ) → Store
after_event store given (event.Opened session seat) = after_opened store session seat
after_event store given (event.Pinned session request attempt version) = after_pinned store session request attempt version
after_event store given (event.Found session iri) = after_found store session iri
after_event store given (event.Led session iri flight) = after_led store session iri flight
after_event store given (event.Joined session iri flight) = after_joined store session iri flight
after_event store given (event.Published flight version) = after_published_with store flight version given
after_event store given (event.Failed flight before after) = after_landed store flight (end.Failed before after)
after_event store given (event.Lapsed flight) = after_landed store flight end.Lapsed
after_event store given (event.Evicted session iri version) = after_evicted store session iri version
after_event store given (event.ReviseLed session iri flight) = after_revise_led store session iri flight
after_event store given (event.Same flight) = after_landed store flight end.Same
after_event store given (event.Answered session request how) = after_answered store session
after_event store given (event.Closed session) = after_closed store session

-- what the next entry may ask of this one, where it is an Evicted
abbrev pub eviction : Store → Event (List ℕ) → Option Eviction
eviction store (event.Evicted session iri version) = Some (record { session = session; iri = iri; places = places store; next = is_next_out store iri })
eviction store _ = None

abbrev pub after : Store → Entry (List ℕ) Given → Store
after store entry = record (after_event store entry.given entry.event) { events = store.events + 1; evicted = eviction store entry.event }
