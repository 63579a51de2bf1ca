-- The words that the rules are written in.
use Rattle.std.specs.Prelude.{ℕ, zero, suc, ◌+◌, ◌*◌, ◌==◌, nat_le, nat_eq, Bool, true, false, not, ◌&&◌, ◌||◌, List, length, slice_get, Option, Some, None, is_some, count_by}
use Rattle.std.specs.List.{list_any, list_all, find}
use Rattle.std.specs.Option.{option_map}
use Rattle.std.specs.Ordering.{nat_cmp}
use Rattle.std.specs.Map.{lookup, values_of}
use Rattle.std.specs.BTreeMap.{is_at}
use Rattle.std.specs.Cmp.Lexicographic.{pointwise}
use Rattle.ld_tree.specs.Names.{name_cmp}
use Rattle.ld_history.specs.declared.limits.Limits.{Limits}
use Rattle.ld_history.specs.declared.event.Given.{Given}
use Rattle.ld_history.specs.declared.session.Session.{Session}
use Rattle.ld_history.specs.declared.session.Last.{Last}
use Rattle.ld_history.specs.declared.session.Last.TheVariants.{Idle, Pinned}
use Rattle.ld_history.specs.declared.session.Flight.{Flight}
use Rattle.ld_history.specs.declared.session.Flying.{Flying}
use Rattle.ld_history.specs.declared.session.Kind.{Kind}
use Rattle.ld_history.specs.declared.session.Kind.TheVariants as kind
use Rattle.ld_history.specs.declared.session.End.{End}
use Rattle.ld_history.specs.declared.session.End.TheVariants as end
use Rattle.ld_history.specs.Store.{Store}

-- what stands at a number, and at an IRI
abbrev pub at_number : {X : Type 0} → List (ℕ × X) → ℕ → Option X
at_number entries n = lookup (is_at (nat_cmp n)) entries

abbrev pub at_iri : {X : Type 0} → List (List ℕ × X) → List ℕ → Option X
at_iri entries iri = lookup (is_at (name_cmp iri)) entries

-- the flight of this number, counted from 1
abbrev pub flight_at : List Flight → ℕ → Option Flight
flight_at flights zero = None
flight_at flights (suc place) = slice_get flights place

-- there is a value, and it passes
abbrev pub is_some_and : {X : Type 0} → (X → Bool) → Option X → Bool
is_some_and test None = false
is_some_and test (Some x) = test x

abbrev pub same_iri : List ℕ → List ℕ → Bool
same_iri = pointwise nat_eq

-- the same url, length and mark
abbrev pub same_given : Given → Given → Bool
same_given a b = pointwise nat_eq a.url b.url && (a.length == b.length) && pointwise nat_eq a.mark b.mark

abbrev pub is_idle : Last → Bool
is_idle Idle = true
is_idle _ = false

abbrev pub is_pinned : Last → Bool
is_pinned Pinned = true
is_pinned _ = false

-- A request is under way from its first Pinned to its Answered.
abbrev pub has_request : Session → Bool
has_request s = not (is_idle s.last)

abbrev pub is_lead : Kind → Bool
is_lead kind.Lead = true
is_lead kind.Revise = false

abbrev pub is_under_way : End → Bool
is_under_way end.UnderWay = true
is_under_way _ = false

abbrev pub is_published : End → Bool
is_published (end.Published version) = true
is_published _ = false

abbrev pub is_failed : End → Bool
is_failed (end.Failed before after) = true
is_failed _ = false

abbrev pub is_same : End → Bool
is_same end.Same = true
is_same _ = false

abbrev pub is_published_as : ℕ → End → Bool
is_published_as version (end.Published made) = made == version
is_published_as version _ = false

abbrev pub is_stored : Store → List ℕ → Bool
is_stored store iri = is_some (at_iri store.stored iri)

-- in a Lead flight under way
abbrev pub is_led : Store → List ℕ → Bool
is_led store iri = is_some (at_iri store.leads iri)

-- in a Revise flight under way
abbrev pub is_revised : Store → List ℕ → Bool
is_revised store iri = is_some (at_iri store.revisions iri)

-- stored IRIs, and Lead flights under way
abbrev pub places : Store → ℕ
places store = length store.stored + length store.leads

abbrev pub flights_under_way : Store → ℕ
flights_under_way store = length store.leads + length store.revisions

abbrev pub requests_under_way : Store → ℕ
requests_under_way store = count_by has_request (values_of store.sessions)

-- The history is full exactly where this doesn't hold.
abbrev pub history_has_room : Limits → Store → Bool
history_has_room limits store = nat_le (store.events + 320 * (requests_under_way store + 1) + 256) limits.events

-- The archive is full exactly where this doesn't hold.
abbrev pub archive_has_room : Limits → Store → Bool
archive_has_room limits store = nat_le (store.bytes + 1050624 * (flights_under_way store + 1)) limits.bytes

-- A held IRI is one that a request under way has Found, Led or Joined.
abbrev pub holds : Session → List ℕ → Bool
holds s iri = list_any (λ held. same_iri held iri) s.held

abbrev pub is_held : Store → List ℕ → Bool
is_held store iri = list_any (λ s. holds s iri) (values_of store.sessions)

-- the least session that holds the IRI
abbrev pub least_holder : Store → List ℕ → Option ℕ
least_holder store iri = option_map (λ e. e.0) (find (λ e. holds e.1 iri) store.sessions)

-- neither held nor under revision
abbrev pub may_go : Store → List ℕ → Bool
may_go store iri = not (is_held store iri) && not (is_revised store iri)

-- none that may go was published before this version
abbrev pub none_before : Store → ℕ → Bool
none_before store version = list_all (λ e. not (may_go store e.0) || nat_le version e.1.version) store.stored

-- The order of eviction: of the stored IRIs that may go, the one that was published at the least version.
abbrev pub is_next_out : Store → List ℕ → Bool
is_next_out store iri = is_some_and (λ out. may_go store iri && none_before store out.version) (at_iri store.stored iri)

-- an open session has this seat
abbrev pub is_taken : Store → ℕ → Bool
is_taken store seat = list_any (λ s. s.seat == seat) (values_of store.sessions)

-- a flight under way that this session led
abbrev pub is_led_by : List (List ℕ × Flying) → ℕ → Bool
is_led_by flights session = list_any (λ f. f.session == session) (values_of flights)

abbrev pub has_flight : Store → ℕ → Bool
has_flight store session = is_led_by store.leads session || is_led_by store.revisions session

-- what the flight brought is what is stored
abbrev pub is_stored_answer : Store → List ℕ → Given → Bool
is_stored_answer store iri given = is_some_and (λ stored. same_given stored.answer given) (at_iri store.stored iri)
