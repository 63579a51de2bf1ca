-- What follows where an entry is allowed.
use Rattle.std.proofs.Common.{◌≡◌, ◌+◌, ◌*◌, ◌^◌, ◌<◌, ◌≤◌, ℕ, List, length, Bool, true, false, ◌&&◌, ◌||◌, Option, Some, None, not, is_some, nat_le, arith, refl}
use Rattle.std.proofs.lemmas.Bool.Decides.{nat_tests}
use Rattle.ld_history.specs.declared.limits.Limits.{Limits}
use Rattle.ld_history.specs.declared.event.Given.{Given}
use Rattle.ld_history.specs.declared.event.Event.TheVariants as event
use Rattle.ld_history.specs.declared.session.Session.{Session}
use Rattle.ld_history.specs.declared.session.Flight.{Flight}
use Rattle.ld_history.specs.Store.{Store}
use Rattle.ld_history.specs.Words.{at_number, at_iri, flight_at, is_under_way, is_lead, is_stored_answer, is_some_and, is_pinned, flights_under_way, archive_has_room}
use Rattle.ld_history.specs.declared.event.Event.{Event}
use Rattle.ld_history.specs.After.{ReliesOn}
use Rattle.ld_history.proofs.LawReads.{read_open}
use Rattle.ld_history.specs.Rules.{place_was_made, has_place, is_next_version}
use Rattle.ld_history.specs.ByTurns.{allows_given, lacks}

left : (a b : Bool) → a && b ≡ true → a ≡ true
left true b h = refl
left false b h = cc

right : (a b : Bool) → a && b ≡ true → b ≡ true
right true b h = h
right false b h = cc

absent : {X : Type 0} (o : Option X) → not (is_some o) ≡ true → o ≡ None
absent None h = refl
absent (Some x) h = cc

at_most : (a b : ℕ) → nat_le a b ≡ true → a ≤ b
at_most a b h = grind (arith, nat_tests)

fits : (limits : Limits) (store : Store) (iri : List ℕ) (flight : ℕ) (s : Session) → lacks limits store iri s ≡ true → has_place limits store iri flight ≡ true → limits.bytes ≤ 134217728
    → store.bytes + length iri < 2 ^ 64
fits limits store iri flight s lacking place small =
    let room : archive_has_room limits store ≡ true = right _ _ (left _ _ place) in
    let bytes : store.bytes + 1050624 * (flights_under_way store + 1) ≤ limits.bytes = at_most (store.bytes + 1050624 * (flights_under_way store + 1)) limits.bytes room in
    let short : length iri ≤ 2048 = at_most (length iri) 2048 (right _ _ (left _ _ lacking)) in
    omega arith

led : (limits : Limits) (store : Store) (session : ℕ) (iri : List ℕ) (flight : ℕ) → limits.bytes ≤ 134217728 → (o : Option Session)
    → is_some_and (λ s. (is_pinned s.last || place_was_made limits store session iri) && lacks limits store iri s && has_place limits store iri flight) o ≡ true
    → ReliesOn store (event.Led session iri flight)
led limits store session iri flight small None h = cc
led limits store session iri flight small (Some s) h =
    let place : has_place limits store iri flight ≡ true = right _ _ h in
    (absent (at_iri store.leads iri) (right _ _ (left _ _ (left _ _ (left _ _ place)))), fits limits store iri flight s (right _ _ (left _ _ h)) place small)

later : (store : Store) (version : ℕ) → is_next_version store version ≡ true → store.version < version
later store version h = grind (arith, nat_tests)

next : (store : Store) (version : ℕ) → is_next_version store version ≡ true → store.version ≤ version
next store version h = grind (arith, nat_tests)

publishes : (store : Store) (version : ℕ) (given : Given) (o : Option Flight)
    → is_some_and (λ f. is_under_way f.end && (is_next_version store version && nat_le given.length 1048577 && (is_lead f.kind || not (is_stored_answer store f.iri given)))) o ≡ true → store.version < version
publishes store version given None h = cc
publishes store version given (Some f) h = later store version (left _ _ (left _ _ (right _ _ h)))

pub room : (limits : Limits) (store : Store) (e : Event (List ℕ)) (given : Option Given) → allows_given limits store e given ≡ true → limits.bytes ≤ 134217728 → store.bytes ≤ limits.bytes → ReliesOn store e
room limits store (event.Led session iri flight) (Some given) allowed small kept = cc
room limits store (event.Led session iri flight) None allowed small kept = led limits store session iri flight small (at_number store.sessions session) allowed
room limits store (event.Published flight version) None allowed small kept = cc
room limits store (event.Published flight version) (Some given) allowed small kept = (publishes store version given (flight_at store.flights flight) allowed, omega (arith, small, kept))
room limits store (event.Evicted session iri version) (Some given) allowed small kept = cc
room limits store (event.Evicted session iri version) None allowed small kept = next store version (right _ _ allowed)
room limits store (event.Opened session seat) (Some given) allowed small kept = cc
room limits store (event.Opened session seat) None allowed small kept = let p = read_open limits store session seat allowed in (p.next, p.free)
room limits store (event.Closed session) (Some given) allowed small kept = cc
room limits store (event.Closed session) None allowed small kept = allowed
room limits store _ given allowed small kept = tt
