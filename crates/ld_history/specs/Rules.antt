-- Which entry may come next. The rules are the project's own. What a version had they ask a test: `had iri
-- version` says whether the IRI was in the store at that version. In a history it is the version's stock
-- (Legal).
use Rattle.std.specs.Prelude.{ℕ, ◌+◌, ◌-◌, ◌^◌, ◌==◌, nat_le, nat_lt, Bool, true, false, not, ◌&&◌, ◌||◌, List, length, Option, Some, None}
use Rattle.std.specs.List.{list_any, list_all}
use Rattle.std.specs.Map.{keys_of}
use Rattle.std.specs.Option.{option_map}
use Rattle.ld_history.specs.declared.limits.Limits.{Limits}
use Rattle.ld_history.specs.declared.event.Given.{Given}
use Rattle.ld_history.specs.declared.event.Event.{Event}
use Rattle.ld_history.specs.declared.event.Event.TheVariants as event
use Rattle.ld_history.specs.declared.event.How.{How}
use Rattle.ld_history.specs.declared.event.How.TheVariants as how
use Rattle.ld_history.specs.declared.event.Entry.{Entry}
use Rattle.ld_history.specs.declared.session.Session.{Session}
use Rattle.ld_history.specs.declared.session.Flight.{Flight}
use Rattle.ld_history.specs.declared.session.Last.{Last}
use Rattle.ld_history.specs.declared.session.Last.TheVariants as last
use Rattle.ld_history.specs.declared.session.End.{End}
use Rattle.ld_history.specs.Store.{Store}
use Rattle.ld_history.specs.Words.{at_number, at_iri, flight_at, is_some_and, same_iri, is_idle, is_pinned, has_request, is_lead, is_under_way, is_published, is_published_as, is_failed, is_same, is_stored, is_led, is_revised, places, history_has_room, archive_has_room, least_holder, may_go, is_taken, has_flight, is_stored_answer}

-- whether an IRI was in the store at a version
abbrev pub Had : Type 0
Had = List ℕ → ℕ → Bool

-- the session is open and passes
abbrev pub on_session : Store → ℕ → (Session → Bool) → Bool
on_session store session rule = is_some_and rule (at_number store.sessions session)

-- the flight is under way and passes
abbrev pub on_flight : Store → ℕ → (Flight → Bool) → Bool
on_flight store flight rule = is_some_and (λ f. is_under_way f.end && rule f) (flight_at store.flights flight)

-- how the flight ended, if it is one
abbrev pub end_of : Store → ℕ → Option End
end_of store flight = option_map (λ f. f.end) (flight_at store.flights flight)

abbrev pub ended : Store → ℕ → (End → Bool) → Bool
ended store flight rule = is_some_and rule (end_of store flight)

-- the session is open, and its last own event is Pinned
abbrev pub has_pinned : Store → ℕ → Bool
has_pinned store session = on_session store session (λ s. is_pinned s.last)

-- the next number of a flight, and of a version
abbrev pub is_next : Store → ℕ → Bool
is_next store flight = flight == length store.flights + 1

abbrev pub is_next_version : Store → ℕ → Bool
is_next_version store version = version == store.version + 1

-- 1 Opened: the number is one more than the sessions so far, the seat is below 256 and has no session
-- under way, the history has room
abbrev pub may_open : Limits → Store → ℕ → ℕ → Bool
may_open limits store session seat =
    (session == store.opened + 1) && nat_lt seat 256 && not (is_taken store seat) && history_has_room limits store

-- no request is under way, the request is one more than the session's last, the attempt is 1 and the
-- history has room
abbrev pub begins : Limits → Store → ℕ → ℕ → Session → Bool
begins limits store request attempt s = is_idle s.last && (request == s.request + 1) && (attempt == 1) && history_has_room limits store

-- the last own event is Found, or Led or Joined of a Published flight
abbrev pub may_pin_again : Store → Last → Bool
may_pin_again store last.Found = true
may_pin_again store (last.Led flight) = ended store flight is_published
may_pin_again store (last.Joined flight) = ended store flight is_published
may_pin_again store _ = false

-- the request is under way, and the attempt is one more
abbrev pub goes_on : Store → ℕ → ℕ → Session → Bool
goes_on store request attempt s = (request == s.request) && (attempt == s.attempt + 1) && may_pin_again store s.last

-- 2 Pinned: the session is open and the version is the current one; and the request begins, or it goes on
abbrev pub may_pin : Limits → Store → ℕ → ℕ → ℕ → ℕ → Bool
may_pin limits store session request attempt version =
    on_session store session (λ s. (version == store.version) && (begins limits store request attempt s || goes_on store request attempt s))

-- the pinned version is without the IRI, which has at most 2,048 bytes, and this request holds fewer
-- than it may
abbrev pub lacks : Had → Limits → List ℕ → Session → Bool
lacks had limits iri s = not (had iri s.version) && nat_le (length iri) 2048 && nat_lt (length s.held) limits.held

-- 3 Found: the last own event is Pinned, at a version that lacks the IRI, which is stored now
abbrev pub may_find : Had → Limits → Store → ℕ → List ℕ → Bool
may_find had limits store session iri = on_session store session (λ s. is_pinned s.last && lacks had limits iri s && is_stored store iri)

-- The entry just before is an Evicted of this session, and before it stored plus Lead flights was
-- `contexts`; the IRI that went out was the next in the order of eviction, and is another one.
abbrev pub place_was_made : Limits → Store → ℕ → List ℕ → Bool
place_was_made limits store session iri =
    is_some_and (λ e. (e.session == session) && (e.places == limits.contexts) && e.next && not (same_iri e.iri iri)) store.evicted

-- The IRI is neither stored nor in a Lead flight under way; stored plus Lead flights is below
-- `contexts`; the archive has room; the number is the next.
abbrev pub has_place : Limits → Store → List ℕ → ℕ → Bool
has_place limits store iri flight =
    not (is_stored store iri) && not (is_led store iri) && nat_lt (places store) limits.contexts && archive_has_room limits store && is_next store flight

-- 4 Led: as Found, but the IRI isn't stored and has a place. An Evicted that made the place stands for
-- the Pinned before it.
abbrev pub may_lead : Had → Limits → Store → ℕ → List ℕ → ℕ → Bool
may_lead had limits store session iri flight =
    on_session store session (λ s. (is_pinned s.last || place_was_made limits store session iri) && lacks had limits iri s && has_place limits store iri flight)

-- the IRI is in this Lead flight under way
abbrev pub is_led_as : Store → List ℕ → ℕ → Bool
is_led_as store iri flight = is_some_and (λ lead. lead.flight == flight) (at_iri store.leads iri)

-- 5 Joined: as Found, but the IRI is in this Lead flight under way
abbrev pub may_join : Had → Limits → Store → ℕ → List ℕ → ℕ → Bool
may_join had limits store session iri flight =
    on_session store session (λ s. is_pinned s.last && lacks had limits iri s && is_led_as store iri flight)

-- 6 Published: the flight is under way, the version is one more and the answer's length is at most
-- 1,048,577; for a Revise flight, url, length or mark differ from the stored
abbrev pub may_publish : Store → ℕ → ℕ → Given → Bool
may_publish store flight version given =
    on_flight store flight (λ f. is_next_version store version && nat_le given.length 1048577 && (is_lead f.kind || not (is_stored_answer store f.iri given)))

-- the flight is under way
abbrev pub is_flying : Store → ℕ → Bool
is_flying store flight = is_some_and (λ f. is_under_way f.end) (flight_at store.flights flight)

-- 7 Failed: the flight is under way, `after` is at most 2^63 - 1, and `before < after` or both are that
abbrev pub may_fail : Store → ℕ → ℕ → ℕ → Bool
may_fail store flight before after =
    is_flying store flight && (nat_le after (2 ^ 63 - 1) && (nat_lt before after || ((before == 2 ^ 63 - 1) && (after == 2 ^ 63 - 1))))

-- 8 Lapsed: the flight is under way
abbrev pub may_lapse : Store → ℕ → Bool
may_lapse store flight = is_flying store flight

-- 9 Evicted: the last own event is Pinned, the IRI is stored, not held and in no Revise flight under
-- way, the version is one more
abbrev pub may_evict : Store → ℕ → List ℕ → ℕ → Bool
may_evict store session iri version =
    has_pinned store session && is_stored store iri && may_go store iri && is_next_version store version

-- 10 ReviseLed: the last own event is Pinned, the IRI is stored and in no flight under way, the archive
-- has room, the number is the next
abbrev pub may_revise : Limits → Store → ℕ → List ℕ → ℕ → Bool
may_revise limits store session iri flight =
    has_pinned store session && is_stored store iri && not (is_led store iri) && not (is_revised store iri) && archive_has_room limits store && is_next store flight

-- 11 Same: a Revise flight under way whose answer has the stored url, length and mark
abbrev pub may_be_same : Store → ℕ → Given → Bool
may_be_same store flight given = on_flight store flight (λ f. not (is_lead f.kind) && is_stored_answer store f.iri given)

-- a Revise flight under way
abbrev pub is_revising : Store → ℕ → Bool
is_revising store flight = on_flight store flight (λ f. not (is_lead f.kind))

-- the last own event is Led, Joined or ReviseLed of this flight
abbrev pub waits_for : ℕ → Last → Bool
waits_for flight (last.Led own) = own == flight
waits_for flight (last.Joined own) = own == flight
waits_for flight (last.ReviseLed own) = own == flight
waits_for flight _ = false

-- the flight Failed
abbrev pub has_failed : Store → ℕ → Bool
has_failed store flight = ended store flight is_failed

-- every stored IRI is held or in a Revise flight under way
abbrev pub none_may_go : Store → Bool
none_may_go store = list_all (λ iri. not (may_go store iri)) (keys_of store.stored)

-- stored plus Lead flights is `contexts`, and none may go
abbrev pub is_full : Limits → Store → Bool
is_full limits store = (places store == limits.contexts) && none_may_go store

-- this is the least session that holds the IRI
abbrev pub is_least_holder : Store → ℕ → List ℕ → Bool
is_least_holder store session iri = is_some_and (λ holder. holder == session) (least_holder store iri)

-- some stored IRI is held, and this is the least session that holds it
abbrev pub holds_first : Store → ℕ → Bool
holds_first store session = list_any (λ iri. is_least_holder store session iri) (keys_of store.stored)

-- the last own event is ReviseLed, and the flight is Published with this version
abbrev pub revised_as : Store → ℕ → Last → Bool
revised_as store version (last.ReviseLed flight) = ended store flight (is_published_as version)
revised_as store version _ = false

-- the last own event is ReviseLed, and the flight is Same
abbrev pub revised_same : Store → Last → Bool
revised_same store (last.ReviseLed flight) = ended store flight is_same
revised_same store _ = false

-- the last own event is Evicted with this version
abbrev pub has_evicted : ℕ → Last → Bool
has_evicted version (last.Evicted made) = made == version
has_evicted version _ = false

-- How a request may be answered, of which session s has one under way. All but the first two and the
-- last four also need that the last own event is Pinned.
abbrev pub may_say : Had → Limits → Store → Session → How (List ℕ) → Bool
-- the last own event is Pinned
may_say had limits store s how.Done = is_pinned s.last
-- always
may_say had limits store s how.NoMemory = true
-- the last own event is Led, Joined or ReviseLed of this flight, and it Failed
may_say had limits store s (how.LoadFault flight) = waits_for flight s.last && has_failed store flight
-- this request holds `held` IRIs and the IRI isn't in the pinned version
may_say had limits store s (how.TooMany iri) = is_pinned s.last && (length s.held == limits.held) && not (had iri s.version)
-- stored plus Lead flights is `contexts`, and every stored IRI is held or in a Revise flight under way
may_say had limits store s how.StoreFull = is_pinned s.last && is_full limits store
-- the archive is full with these kept bytes
may_say had limits store s (how.ArchiveFull bytes) = is_pinned s.last && not (archive_has_room limits store) && (bytes == store.bytes)
-- the version is the current one
may_say had limits store s (how.NotStored version) = is_pinned s.last && (version == store.version)
-- some stored IRI is held, and this is the least session that holds it
may_say had limits store s (how.Held session) = is_pinned s.last && holds_first store session
-- it is a Revise flight under way
may_say had limits store s (how.Revising flight) = is_pinned s.last && is_revising store flight
may_say had limits store s (how.Flying flight) = is_pinned s.last && is_revising store flight
-- the last own event is Evicted with this version
may_say had limits store s (how.Evicted version) = has_evicted version s.last
-- the last own event is ReviseLed, and the flight is Published with this version
may_say had limits store s (how.Revised version) = revised_as store version s.last
-- the last own event is ReviseLed, and the flight is Same
may_say had limits store s how.Same = revised_same store s.last

-- 12 Answered: the request is under way, no flight that it led is, and it may be answered so
abbrev pub may_answer : Had → Limits → Store → ℕ → ℕ → How (List ℕ) → Bool
may_answer had limits store session request how =
    on_session store session (λ s. has_request s && (request == s.request) && not (has_flight store session) && may_say had limits store s how)

-- 13 Closed: the session is open and has no request under way
abbrev pub may_close : Store → ℕ → Bool
may_close store session = on_session store session (λ s. is_idle s.last)

-- whether the event may come next, with this answer of a flight
abbrev pub allows_with : Store → Given → Event (List ℕ) → Bool
allows_with store given (event.Published flight version) = may_publish store flight version given
allows_with store given (event.Same flight) = may_be_same store flight given
allows_with store given _ = false

-- whether it may come next with no answer
abbrev pub allows_alone : Had → Limits → Store → Event (List ℕ) → Bool
allows_alone had limits store (event.Opened session seat) = may_open limits store session seat
allows_alone had limits store (event.Pinned session request attempt version) = may_pin limits store session request attempt version
allows_alone had limits store (event.Found session iri) = may_find had limits store session iri
allows_alone had limits store (event.Led session iri flight) = may_lead had limits store session iri flight
allows_alone had limits store (event.Joined session iri flight) = may_join had limits store session iri flight
allows_alone had limits store (event.Published flight version) = false
allows_alone had limits store (event.Failed flight before after) = may_fail store flight before after
allows_alone had limits store (event.Lapsed flight) = may_lapse store flight
allows_alone had limits store (event.Evicted session iri version) = may_evict store session iri version
allows_alone had limits store (event.ReviseLed session iri flight) = may_revise limits store session iri flight
allows_alone had limits store (event.Same flight) = false
allows_alone had limits store (event.Answered session request how) = may_answer had limits store session request how
allows_alone had limits store (event.Closed session) = may_close store session

-- An answer of a flight is there exactly for Published and Same.
abbrev pub allows_given : Had → Limits → Store → Event (List ℕ) → Option Given → Bool
allows_given had limits store event (Some given) = allows_with store given event
allows_given had limits store event None = allows_alone had limits store event

-- the entry may come next after the entries that made this state, and told what versions had
abbrev pub allows : Had → Limits → Store → Entry (List ℕ) Given → Bool
allows had limits store entry = allows_given had limits store entry.event entry.given
