-- What each rule says, part by part.
use Rattle.std.proofs.Common.{◌≡◌, ℕ, ◌+◌, ◌*◌, ◌<◌, ◌≤◌, List, length, refl, Option, Some, None, Bool, true, false, ◌⊎◌, inl, inr, ◌&&◌, ltb-true, leb-true, eqb-true}
use Rattle.std.proofs.lemmas.Bool.{and_parts, not-true, or_cases}
use Rattle.ld_history.specs.declared.limits.Limits.{Limits}
use Rattle.ld_history.specs.declared.event.Given.{Given}
use Rattle.ld_history.specs.declared.event.How.{How}
use Rattle.ld_history.specs.declared.session.Session.{Session}
use Rattle.ld_history.specs.declared.session.Last.{Last}
use Rattle.ld_history.specs.declared.session.Last.TheVariants as last
use Rattle.ld_history.specs.declared.session.Flight.{Flight}
use Rattle.ld_history.specs.declared.session.End.{End}
use Rattle.ld_history.specs.declared.session.End.TheVariants as end
use Rattle.ld_history.specs.Store.{Store}
use Rattle.ld_history.specs.Words.{at_number, flight_at, is_some_and, is_idle, is_pinned, has_request, is_under_way, is_stored, is_led, is_revised, places, flights_under_way, requests_under_way, is_held, is_taken, has_flight}
use Rattle.ld_history.specs.Rules.{may_open, may_pin, begins, goes_on, may_pin_again, place_was_made, has_place, is_led_as, may_publish, is_flying, may_fail, may_evict, may_revise, may_be_same, may_close}
use Rattle.ld_history.specs.ByTurns.{was_stored, lacks, may_find, may_lead, may_join, may_answer}

pub some_and : {X : Type 0} (test : X → Bool) (o : Option X) → is_some_and test o ≡ true → (x : X) × (o ≡ Some x) × (test x ≡ true)
some_and test None h = cc
some_and test (Some x) h = (x, refl, h)

pub both : {a b : Bool} → (a && b) ≡ true → (a ≡ true) × (b ≡ true)
both {a} {b} h = and_parts a b h

pub idle_is : (l : Last) → is_idle l ≡ true → l ≡ last.Idle
idle_is last.Idle h = refl
idle_is last.Pinned h = cc
idle_is last.Found h = cc
idle_is (last.Led f) h = cc
idle_is (last.Joined f) h = cc
idle_is (last.Evicted v) h = cc
idle_is (last.ReviseLed f) h = cc

pub pinned_is : (l : Last) → is_pinned l ≡ true → l ≡ last.Pinned
pinned_is last.Idle h = cc
pinned_is last.Pinned h = refl
pinned_is last.Found h = cc
pinned_is (last.Led f) h = cc
pinned_is (last.Joined f) h = cc
pinned_is (last.Evicted v) h = cc
pinned_is (last.ReviseLed f) h = cc

pub under_way_is : (e : End) → is_under_way e ≡ true → e ≡ end.UnderWay
under_way_is end.UnderWay h = refl
under_way_is (end.Published v) h = cc
under_way_is end.Same h = cc
under_way_is (end.Failed before after) h = cc
under_way_is end.Lapsed h = cc

-- the session is open as s
abbrev pub IsOpen : Store → ℕ → Session → Type 0
IsOpen store session s = at_number store.sessions session ≡ Some s

pub record Opens (limits : Limits) (store : Store) (session : ℕ) (seat : ℕ) : Type 0 where
  pub next : session ≡ store.opened + 1
  pub small : seat < 256
  pub free : is_taken store seat ≡ false
  pub room : store.events + 320 * (requests_under_way store + 1) + 256 ≤ limits.events

pub read_open : (limits : Limits) (store : Store) (session seat : ℕ) → may_open limits store session seat ≡ true → Opens limits store session seat
read_open limits store session seat h =
    let a = both h in
    let b = both a.0 in
    let c = both b.0 in
    record { next = eqb-true _ _ c.0; small = ltb-true _ _ c.1; free = not-true _ b.1; room = leb-true _ _ a.1 }

pub record Begins (limits : Limits) (store : Store) (request : ℕ) (attempt : ℕ) (s : Session) : Type 0 where
  pub idle : s.last ≡ last.Idle
  pub next : request ≡ s.request + 1
  pub first : attempt ≡ 1
  pub room : store.events + 320 * (requests_under_way store + 1) + 256 ≤ limits.events

pub record GoesOn (store : Store) (request : ℕ) (attempt : ℕ) (s : Session) : Type 0 where
  pub same : request ≡ s.request
  pub next : attempt ≡ s.attempt + 1
  pub again : may_pin_again store s.last ≡ true

pub record Pins (limits : Limits) (store : Store) (session : ℕ) (request : ℕ) (attempt : ℕ) (version : ℕ) : Type 0 where
  pub s : Session
  pub is : IsOpen store session s
  pub now : version ≡ store.version
  pub how : Begins limits store request attempt s ⊎ GoesOn store request attempt s

read_begins : (limits : Limits) (store : Store) (request attempt : ℕ) (s : Session) → begins limits store request attempt s ≡ true → Begins limits store request attempt s
read_begins limits store request attempt s h =
    let a = both h in
    let b = both a.0 in
    let c = both b.0 in
    record { idle = idle_is s.last c.0; next = eqb-true _ _ c.1; first = eqb-true _ _ b.1; room = leb-true _ _ a.1 }

read_goes_on : (store : Store) (request attempt : ℕ) (s : Session) → goes_on store request attempt s ≡ true → GoesOn store request attempt s
read_goes_on store request attempt s h =
    let a = both h in
    let b = both a.0 in
    record { same = eqb-true _ _ b.0; next = eqb-true _ _ b.1; again = a.1 }

read_how : (limits : Limits) (store : Store) (request attempt : ℕ) (s : Session) → (begins limits store request attempt s ≡ true) ⊎ (goes_on store request attempt s ≡ true) → Begins limits store request attempt s ⊎ GoesOn store request attempt s
read_how limits store request attempt s (inl h) = inl (read_begins limits store request attempt s h)
read_how limits store request attempt s (inr h) = inr (read_goes_on store request attempt s h)

pub read_pin : (limits : Limits) (store : Store) (session request attempt version : ℕ) → may_pin limits store session request attempt version ≡ true → Pins limits store session request attempt version
read_pin limits store session request attempt version h =
    let a = some_and _ _ h in
    let b = both a.2 in
    record { s = a.0; is = a.1; now = eqb-true _ _ b.0; how = read_how limits store request attempt a.0 (or_cases _ _ b.1) }

pub record Lacks (limits : Limits) (store : Store) (iri : List ℕ) (s : Session) : Type 0 where
  pub absent : was_stored store iri s.version ≡ false
  pub short : length iri ≤ 2048
  pub fewer : length s.held < limits.held

read_lacks : (limits : Limits) (store : Store) (iri : List ℕ) (s : Session) → lacks limits store iri s ≡ true → Lacks limits store iri s
read_lacks limits store iri s h =
    let a = both h in
    let b = both a.0 in
    record { absent = not-true _ b.0; short = leb-true _ _ b.1; fewer = ltb-true _ _ a.1 }

pub record Finds (limits : Limits) (store : Store) (session : ℕ) (iri : List ℕ) : Type 0 where
  pub s : Session
  pub is : IsOpen store session s
  pub pinned : s.last ≡ last.Pinned
  pub lack : Lacks limits store iri s
  pub stored : is_stored store iri ≡ true

pub read_find : (limits : Limits) (store : Store) (session : ℕ) (iri : List ℕ) → may_find limits store session iri ≡ true → Finds limits store session iri
read_find limits store session iri h =
    let a = some_and _ _ h in
    let b = both a.2 in
    let c = both b.0 in
    record { s = a.0; is = a.1; pinned = pinned_is _ c.0; lack = read_lacks limits store iri a.0 c.1; stored = b.1 }

pub record HasPlace (limits : Limits) (store : Store) (iri : List ℕ) (flight : ℕ) : Type 0 where
  pub not_stored : is_stored store iri ≡ false
  pub not_led : is_led store iri ≡ false
  pub place : places store < limits.contexts
  pub room : store.bytes + 1050624 * (flights_under_way store + 1) ≤ limits.bytes
  pub next : flight ≡ length store.flights + 1

read_place : (limits : Limits) (store : Store) (iri : List ℕ) (flight : ℕ) → has_place limits store iri flight ≡ true → HasPlace limits store iri flight
read_place limits store iri flight h =
    let a = both h in
    let b = both a.0 in
    let c = both b.0 in
    let d = both c.0 in
    record { not_stored = not-true _ d.0; not_led = not-true _ d.1; place = ltb-true _ _ c.1; room = leb-true _ _ b.1; next = eqb-true _ _ a.1 }

pub record Leads (limits : Limits) (store : Store) (session : ℕ) (iri : List ℕ) (flight : ℕ) : Type 0 where
  pub s : Session
  pub is : IsOpen store session s
  pub ready : (is_pinned s.last ≡ true) ⊎ (place_was_made limits store session iri ≡ true)
  pub lack : Lacks limits store iri s
  pub has : HasPlace limits store iri flight

pub read_lead : (limits : Limits) (store : Store) (session : ℕ) (iri : List ℕ) (flight : ℕ) → may_lead limits store session iri flight ≡ true → Leads limits store session iri flight
read_lead limits store session iri flight h =
    let a = some_and _ _ h in
    let b = both a.2 in
    let c = both b.0 in
    record { s = a.0; is = a.1; ready = or_cases _ _ c.0; lack = read_lacks limits store iri a.0 c.1; has = read_place limits store iri flight b.1 }

pub record Joins (limits : Limits) (store : Store) (session : ℕ) (iri : List ℕ) (flight : ℕ) : Type 0 where
  pub s : Session
  pub is : IsOpen store session s
  pub pinned : s.last ≡ last.Pinned
  pub lack : Lacks limits store iri s
  pub led : is_led_as store iri flight ≡ true

pub read_join : (limits : Limits) (store : Store) (session : ℕ) (iri : List ℕ) (flight : ℕ) → may_join limits store session iri flight ≡ true → Joins limits store session iri flight
read_join limits store session iri flight h =
    let a = some_and _ _ h in
    let b = both a.2 in
    let c = both b.0 in
    record { s = a.0; is = a.1; pinned = pinned_is _ c.0; lack = read_lacks limits store iri a.0 c.1; led = b.1 }

-- the flight is under way as f
pub record Flies (store : Store) (flight : ℕ) : Type 0 where
  pub f : Flight
  pub is : flight_at store.flights flight ≡ Some f
  pub flying : f.end ≡ end.UnderWay

pub read_fly : (store : Store) (flight : ℕ) → is_flying store flight ≡ true → Flies store flight
read_fly store flight h =
    let a = some_and _ _ h in
    record { f = a.0; is = a.1; flying = under_way_is _ a.2 }

pub read_fail : (store : Store) (flight before after : ℕ) → may_fail store flight before after ≡ true → is_flying store flight ≡ true
read_fail store flight before after h = (both h).0

pub record Publishes (store : Store) (flight : ℕ) (version : ℕ) (given : Given) : Type 0 where
  pub flies : Flies store flight
  pub next : version ≡ store.version + 1
  pub short : given.length ≤ 1048577

pub read_publish : (store : Store) (flight version : ℕ) (given : Given) → may_publish store flight version given ≡ true → Publishes store flight version given
read_publish store flight version given h =
    let a = some_and _ _ h in
    let b = both a.2 in
    let c = both b.1 in
    let d = both c.0 in
    record { flies = record { f = a.0; is = a.1; flying = under_way_is _ b.0 }; next = eqb-true _ _ d.0; short = leb-true _ _ d.1 }

pub record Evicts (store : Store) (session : ℕ) (iri : List ℕ) (version : ℕ) : Type 0 where
  pub s : Session
  pub is : IsOpen store session s
  pub pinned : s.last ≡ last.Pinned
  pub stored : is_stored store iri ≡ true
  pub not_held : is_held store iri ≡ false
  pub not_revised : is_revised store iri ≡ false
  pub next : version ≡ store.version + 1

pub read_evict : (store : Store) (session : ℕ) (iri : List ℕ) (version : ℕ) → may_evict store session iri version ≡ true → Evicts store session iri version
read_evict store session iri version h =
    let a = both h in
    let b = both a.0 in
    let c = both b.0 in
    let d = some_and _ _ c.0 in
    let e = both b.1 in
    record { s = d.0; is = d.1; pinned = pinned_is _ d.2; stored = c.1; not_held = not-true _ e.0; not_revised = not-true _ e.1; next = eqb-true _ _ a.1 }

pub record Revises (limits : Limits) (store : Store) (session : ℕ) (iri : List ℕ) (flight : ℕ) : Type 0 where
  pub s : Session
  pub is : IsOpen store session s
  pub pinned : s.last ≡ last.Pinned
  pub stored : is_stored store iri ≡ true
  pub not_led : is_led store iri ≡ false
  pub not_revised : is_revised store iri ≡ false
  pub room : store.bytes + 1050624 * (flights_under_way store + 1) ≤ limits.bytes
  pub next : flight ≡ length store.flights + 1

pub read_revise : (limits : Limits) (store : Store) (session : ℕ) (iri : List ℕ) (flight : ℕ) → may_revise limits store session iri flight ≡ true → Revises limits store session iri flight
read_revise limits store session iri flight h =
    let a = both h in
    let b = both a.0 in
    let c = both b.0 in
    let d = both c.0 in
    let e = both d.0 in
    let g = some_and _ _ e.0 in
    record { s = g.0; is = g.1; pinned = pinned_is _ g.2; stored = e.1; not_led = not-true _ d.1; not_revised = not-true _ c.1; room = leb-true _ _ b.1; next = eqb-true _ _ a.1 }

pub read_same : (store : Store) (flight : ℕ) (given : Given) → may_be_same store flight given ≡ true → Flies store flight
read_same store flight given h =
    let a = some_and _ _ h in
    let b = both a.2 in
    record { f = a.0; is = a.1; flying = under_way_is _ b.0 }

pub record Answers (store : Store) (session : ℕ) (request : ℕ) : Type 0 where
  pub s : Session
  pub is : IsOpen store session s
  pub asked : has_request s ≡ true
  pub same : request ≡ s.request
  pub landed : has_flight store session ≡ false

pub read_answer : (limits : Limits) (store : Store) (session request : ℕ) (how : How (List ℕ)) → may_answer limits store session request how ≡ true → Answers store session request
read_answer limits store session request how h =
    let a = some_and _ _ h in
    let b = both a.2 in
    let c = both b.0 in
    let d = both c.0 in
    record { s = a.0; is = a.1; asked = d.0; same = eqb-true _ _ d.1; landed = not-true _ c.1 }

pub record Closes (store : Store) (session : ℕ) : Type 0 where
  pub s : Session
  pub is : IsOpen store session s
  pub idle : s.last ≡ last.Idle

pub read_close : (store : Store) (session : ℕ) → may_close store session ≡ true → Closes store session
read_close store session h =
    let a = some_and _ _ h in
    record { s = a.0; is = a.1; idle = idle_is _ a.2 }
