-- What is counted and listed over the entries of a history, for its laws.
use Rattle.std.specs.Prelude.{ℕ, ◌+◌, ◌-◌, ◌==◌, ◌&&◌, Bool, true, false, if◌then◌else◌, List, [], ◌∷◌, ◌++◌, unwrap_or, count_by}
use Rattle.std.specs.List.{fold}
use Rattle.std.specs.Option.{option_map}
use Rattle.ld_history.specs.declared.event.Event.{Event}
use Rattle.ld_history.specs.declared.event.Event.TheVariants as event
use Rattle.ld_history.specs.declared.session.Flight.{Flight}
use Rattle.ld_history.specs.declared.session.Session.{Session}
use Rattle.ld_history.specs.Store.{Store, empty_store}
use Rattle.ld_history.specs.Words.{flight_at, is_under_way, is_lead, has_request}
use Rattle.ld_history.specs.After.{after}
use Rattle.ld_history.specs.Legal.{Entries}

-- Published and Evicted entries make a version each.
abbrev pub makes_version : Event (List ℕ) → Bool
makes_version (event.Published flight version) = true
makes_version (event.Evicted session iri version) = true
makes_version _ = false

abbrev pub versions_made : Entries → ℕ
versions_made entries = count_by (λ entry. makes_version entry.event) entries

-- the version that the event pins for the session, if it does
abbrev pub pin : ℕ → Event (List ℕ) → List ℕ
pin session (event.Pinned own request attempt version) = if own == session then version ∷ [] else []
pin session _ = []

-- the versions that the session pinned, in turn
abbrev pub pins : ℕ → Entries → List ℕ
pins session [] = []
pins session (entry ∷ entries) = pin session entry.event ++ pins session entries

-- the session that led the flight, or 0, which is no session's number
abbrev pub leader : Store → ℕ → ℕ
leader store flight = unwrap_or (option_map (λ f. f.session) (flight_at store.flights flight)) 0

-- The session that an event belongs to, in the state before it. How a flight ended belongs to the
-- session that led it.
abbrev pub owner : Store → Event (List ℕ) → ℕ
owner store (event.Opened session seat) = session
owner store (event.Pinned session request attempt version) = session
owner store (event.Found session iri) = session
owner store (event.Led session iri flight) = session
owner store (event.Joined session iri flight) = session
owner store (event.Published flight version) = leader store flight
owner store (event.Failed flight before after) = leader store flight
owner store (event.Lapsed flight) = leader store flight
owner store (event.Evicted session iri version) = session
owner store (event.ReviseLed session iri flight) = session
owner store (event.Same flight) = leader store flight
owner store (event.Answered session request how) = session
owner store (event.Closed session) = session

-- of the entries that follow on this state, those that belong to the session
abbrev pub own_from : Store → ℕ → Entries → Entries
own_from store session [] = []
own_from store session (entry ∷ entries) =
    (if owner store entry.event == session then entry ∷ [] else []) ++ own_from (after store entry) session entries

-- the session's entries
abbrev pub own : ℕ → Entries → Entries
own session entries = own_from empty_store session entries

-- A request begins with its first Pinned, whose attempt is 1, and ends with its Answered. What follows is
-- said of a session's last request, which is the one under way where there is one; each count and list
-- is begun anew at a first Pinned.

-- how many entries the request has appended, with one more; Opened and Closed are no request's
abbrev pub spent_with : ℕ → Event (List ℕ) → ℕ
spent_with count (event.Opened session seat) = 0
spent_with count (event.Pinned session request attempt version) = if attempt == 1 then 1 else count + 1
spent_with count (event.Closed session) = 0
spent_with count _ = count + 1

abbrev pub spent : ℕ → Entries → ℕ
spent session entries = fold (λ count entry. spent_with count entry.event) 0 (own session entries)

-- the IRIs that the request lacked: those that it found, led or joined
abbrev pub lacked_with : List (List ℕ) → Event (List ℕ) → List (List ℕ)
lacked_with iris (event.Pinned session request attempt version) = if attempt == 1 then [] else iris
lacked_with iris (event.Found session iri) = iris ++ iri ∷ []
lacked_with iris (event.Led session iri flight) = iris ++ iri ∷ []
lacked_with iris (event.Joined session iri flight) = iris ++ iri ∷ []
lacked_with iris _ = iris

abbrev pub lacked : ℕ → Entries → List (List ℕ)
lacked session entries = fold (λ iris entry. lacked_with iris entry.event) [] (own session entries)

-- how many attempts the request made
abbrev pub tried : ℕ → Event (List ℕ) → ℕ
tried count (event.Pinned session request attempt version) = if attempt == 1 then 1 else count + 1
tried count _ = count

abbrev pub attempts : ℕ → Entries → ℕ
attempts session entries = fold (λ count entry. tried count entry.event) 0 (own session entries)

-- what a session with a request under way may still append, of 320
abbrev pub reserve : Entries → ℕ × Session → ℕ
reserve entries session = if has_request session.1 then 320 - spent session.0 entries else 0

-- Lead flights under way, and all flights under way
abbrev pub leads_under_way : List Flight → ℕ
leads_under_way flights = count_by (λ f. is_under_way f.end && is_lead f.kind) flights

abbrev pub loads_under_way : List Flight → ℕ
loads_under_way flights = count_by (λ f. is_under_way f.end) flights
