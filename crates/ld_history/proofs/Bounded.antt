-- Each number that a history counts up is at most the number of its entries.
use Rattle.std.proofs.Common.{◌≡◌, ℕ, zero, suc, ◌+◌, ◌≤◌, List, [], ◌∷◌, ◌++◌, length, refl, sym, ap, ◌∙◌, subst, arith, Option, Some, None, Bool, true, false, cond, inl, inr, length-append, nat_cmp}
use Rattle.std.proofs.lemmas.List.{length-set}
use Rattle.ld_history.specs.declared.limits.Limits.{Limits}
use Rattle.ld_history.specs.declared.event.Given.{Given}
use Rattle.ld_history.specs.declared.event.Event.{Event}
use Rattle.ld_history.specs.declared.event.Event.TheVariants as event
use Rattle.ld_history.specs.declared.event.Entry.{Entry}
use Rattle.ld_history.specs.declared.session.Session.{Session}
use Rattle.ld_history.specs.declared.session.Last.{Last}
use Rattle.ld_history.specs.declared.session.Last.TheVariants as last
use Rattle.ld_history.specs.declared.session.Flight.{Flight}
use Rattle.ld_history.specs.declared.session.End.{End}
use Rattle.ld_history.specs.declared.session.End.TheVariants as end
use Rattle.ld_history.specs.Store.{Store}
use Rattle.ld_history.specs.Words.{at_number, flight_at}
use Rattle.ld_history.specs.Rules.{allows_with}
use Rattle.ld_history.specs.After.{after, after_event, with_flight, changed, change_found, put_number, take_number, end_at, ended_as}
use Rattle.ld_history.specs.Legal.{state, Entries}
use Rattle.ld_history.specs.Counts.{makes_version}
use Rattle.ld_history.specs.ByTurns.{allows_alone, allows_given, allows, Legal}
use Rattle.ld_history.proofs.LawAlong.{kept_along}
use Rattle.ld_history.proofs.LawReads.{read_open, read_pin, Pins}
use Rattle.ld_history.proofs.LawFlights.{number_cases, put_number_same, put_number_other, take_number_same, take_number_other}
use Rattle.ld_history.proofs.LawCrew.{Sessions, Tries, changed_cases}
use Rattle.std.specs.List.Sorted.{IsStrictlySortedBy}
use Rattle.std.specs.Map.{keys_of}
use Rattle.ld_history.proofs.LawRoom.{roomy}
use Rattle.ld_history.proofs.LawSound.{Sound, sound-empty, sound-after}
use Rattle.ld_history.proofs.LawVersions.{version-after}

-- no open session's last request is above this number
abbrev pub Requests : ℕ → Sessions → Type 0
Requests most sessions = (n : ℕ) (s : Session) → at_number sessions n ≡ Some s → s.request ≤ most

record Small (store : Store) : Type 0 where
  version : store.version ≤ store.events
  opened : store.opened ≤ store.events
  flights : length store.flights ≤ store.events
  requests : Requests store.events store.sessions

pub record Bounded (limits : Limits) (store : Store) : Type 0 where
  pub version : store.version ≤ store.events
  pub opened : store.opened ≤ store.events
  pub flights : length store.flights ≤ store.events
  pub requests : Requests store.events store.sessions
  -- while a request is under way
  pub attempts : (n : ℕ) (s : Session) → at_number store.sessions n ≡ Some s → (s.last ≡ last.Idle → ⊥) → s.attempt ≤ limits.held + 1
  pub few : store.events ≤ limits.events

-- ---- the requests of sessions that change
requests-more : (low high : ℕ) (sessions : Sessions) → low ≤ high → Requests low sessions → Requests high sessions
requests-more low high sessions le h n s is = let here : s.request ≤ low = h n s is in omega (arith, le, here)

requests-changed : (sessions : Sessions) (n : ℕ) (g : Session → Session) (low high : ℕ) → low ≤ high → Requests low sessions
    → ((s : Session) → at_number sessions n ≡ Some s → (g s).request ≤ high) → Requests high (changed sessions n g)
requests-changed sessions n g low high le h own = go (at_number sessions n) refl
  where
    go : (found : Option Session) → at_number sessions n ≡ found → Requests high (changed sessions n g)
    go None is = subst (λ l. Requests high l) (sym (ap (change_found sessions n g) is)) (requests-more low high sessions le h)
    go (Some s) is = λ q t now. elim (changed_cases sessions n g s is q t now) [
      | inl e ↦ subst (λ (x : Session). x.request ≤ high) e.1 (own s is)
      | inr old ↦ requests-more low high sessions le h q t old
    ]

requests-kept : (sessions : Sessions) (n : ℕ) (g : Session → Session) (low : ℕ) → Requests low sessions
    → ((s : Session) → (g s).request ≡ s.request) → Requests (low + 1) (changed sessions n g)
requests-kept sessions n g low h same = requests-changed sessions n g low (low + 1) (omega arith) h (λ s is. let here : s.request ≤ low = h n s is in omega (arith, here, same s))

same_found : (s t : Session) → Some s ≡ Some t → s ≡ t
same_found s t e = cc

requests-put : (sessions : Sessions) (n : ℕ) (s : Session) (most : ℕ) → s.request ≤ most → Requests most sessions → Requests most (put_number sessions n s)
requests-put sessions n s most fits h q t now = elim (number_cases q n) [
  | inl e ↦ subst (λ (x : Session). x.request ≤ most) (same_found s t (sym (put_number_same sessions n s) ∙ ap (at_number (put_number sessions n s)) (sym e) ∙ now)) fits
  | inr a ↦ h q t (sym (put_number_other sessions n s q a) ∙ now)
]

requests-take : (sessions : Sessions) (n most : ℕ) → IsStrictlySortedBy nat_cmp (keys_of sessions) → Requests most sessions → Requests most (take_number sessions n)
requests-take sessions n most sorted h q t now = elim (number_cases q n) [
  | inl e ↦ (let none : None ≡ Some t = sym (take_number_same sessions n sorted) ∙ ap (at_number (take_number sessions n)) (sym e) ∙ now in cc)
  | inr a ↦ h q t (sym (take_number_other sessions n q a) ∙ now)
]

-- ---- the number of flights
length-end_at : (flights : List Flight) (place : ℕ) (how : End) (found : Option Flight) → length (end_at flights place how found) ≡ length flights
length-end_at flights place how None = refl
length-end_at flights place how (Some f) = length-set flights place (record f { end = how })

length-ended : (flights : List Flight) (n : ℕ) (how : End) → length (ended_as flights n how) ≡ length flights
length-ended flights zero how = refl
length-ended flights (suc place) how = length-end_at flights place how (flight_at flights (suc place))

-- ---- one more entry
record Grows (low : ℕ) (now : Store) : Type 0 where
  opened : now.opened ≤ low + 1
  flights : length now.flights ≤ low + 1
  requests : Requests (low + 1) now.sessions

module _ (limits : Limits) (store : Store) (sorted : IsStrictlySortedBy nat_cmp (keys_of store.sessions)) (h : Small store) where
  -- only a session changes, whose last request stays
  told : (n : ℕ) (g : Session → Session) → ((s : Session) → (g s).request ≡ s.request) → Grows store.events (record store { sessions = changed store.sessions n g })
  told n g same = record {
    opened = omega (arith, h.opened);
    flights = omega (arith, h.flights);
    requests = requests-kept store.sessions n g store.events h.requests same;
  }

  -- and a flight begins
  begins : (n : ℕ) (g : Session → Session) (f : Flight) (now : Store) → now.opened ≡ store.opened → now.flights ≡ store.flights ++ f ∷ [] → now.sessions ≡ changed store.sessions n g
      → ((s : Session) → (g s).request ≡ s.request) → Grows store.events now
  begins n g f now opened flights sessions same = record {
    opened = omega (arith, h.opened, opened);
    flights = let more : length now.flights ≡ length (store.flights ++ f ∷ []) = ap length flights in omega (arith, h.flights, more, length-append store.flights (f ∷ []));
    requests = subst (λ l. Requests (store.events + 1) l) (sym sessions) (requests-kept store.sessions n g store.events h.requests same);
  }

  -- a flight ends
  ends : (now : Store) (n : ℕ) (how : End) → now.opened ≡ store.opened → now.flights ≡ ended_as store.flights n how → now.sessions ≡ store.sessions → Grows store.events now
  ends now n how opened flights sessions = record {
    opened = omega (arith, h.opened, opened);
    flights = let same : length now.flights ≡ length store.flights = ap length flights ∙ length-ended store.flights n how in omega (arith, h.flights, same);
    requests = subst (λ l. Requests (store.events + 1) l) (sym sessions) (requests-more store.events (store.events + 1) store.sessions (omega arith) h.requests);
  }

  stays : Grows store.events store
  stays = record {
    opened = omega (arith, h.opened);
    flights = omega (arith, h.flights);
    requests = requests-more store.events (store.events + 1) store.sessions (omega arith) h.requests;
  }

  flown : (change : Flight → Store) (found : Option Flight) → ((f : Flight) → Grows store.events (change f)) → Grows store.events (with_flight store change found)
  flown change None each = stays
  flown change (Some f) each = each f

  pinned : (session request attempt version : ℕ) → Pins limits store session request attempt version → (s : Session) → at_number store.sessions session ≡ Some s → request ≤ store.events + 1
  pinned session request attempt version p s is =
      let same : p.s ≡ s = same_found p.s s (sym p.is ∙ is) in
      let low : s.request ≤ store.events = h.requests session s is in
      let equal : p.s.request ≡ s.request = ap (λ (x : Session). x.request) same in
      elim p.how [
        | inl b ↦ omega (arith, low, equal, b.next)
        | inr g ↦ omega (arith, low, equal, g.same)
      ]

  grows-alone : (event : Event (List ℕ)) → allows_alone limits store event ≡ true → Grows store.events (after_event store None event)
  grows-alone (event.Opened session seat) ok =
      let p = read_open limits store session seat ok in
      record {
        opened = omega (arith, h.opened, p.next);
        flights = omega (arith, h.flights);
        requests = requests-put store.sessions session _ (store.events + 1) (omega arith) (requests-more store.events (store.events + 1) store.sessions (omega arith) h.requests);
      }
  grows-alone (event.Pinned session request attempt version) ok = record {
    opened = omega (arith, h.opened);
    flights = omega (arith, h.flights);
    requests = requests-changed store.sessions session _ store.events (store.events + 1) (omega arith) h.requests
        (pinned session request attempt version (read_pin limits store session request attempt version ok));
  }
  grows-alone (event.Found session iri) ok = told session _ (λ s. refl)
  grows-alone (event.Led session iri flight) ok = begins session _ _ _ refl refl refl (λ s. refl)
  grows-alone (event.Joined session iri flight) ok = told session _ (λ s. refl)
  grows-alone (event.Published flight version) ok = cc
  grows-alone (event.Failed flight before after) ok = flown _ (flight_at store.flights flight) (λ f. ends _ flight (end.Failed before after) refl refl refl)
  grows-alone (event.Lapsed flight) ok = flown _ (flight_at store.flights flight) (λ f. ends _ flight end.Lapsed refl refl refl)
  grows-alone (event.Evicted session iri version) ok = record {
    opened = omega (arith, h.opened);
    flights = omega (arith, h.flights);
    requests = requests-kept store.sessions session _ store.events h.requests (λ s. refl);
  }
  grows-alone (event.ReviseLed session iri flight) ok = begins session _ _ _ refl refl refl (λ s. refl)
  grows-alone (event.Same flight) ok = cc
  grows-alone (event.Answered session request how) ok = told session _ (λ s. refl)
  grows-alone (event.Closed session) ok = record {
    opened = omega (arith, h.opened);
    flights = omega (arith, h.flights);
    requests = requests-take store.sessions session (store.events + 1) sorted (requests-more store.events (store.events + 1) store.sessions (omega arith) h.requests);
  }

  grows-with : (given : Given) (event : Event (List ℕ)) → allows_with store given event ≡ true → Grows store.events (after_event store (Some given) event)
  grows-with given (event.Published flight version) ok = flown _ (flight_at store.flights flight) (λ f. ends _ flight (end.Published version) refl refl refl)
  grows-with given (event.Same flight) ok = flown _ (flight_at store.flights flight) (λ f. ends _ flight end.Same refl refl refl)
  grows-with given event ok = cc

  grows : (given : Option Given) (event : Event (List ℕ)) → allows_given limits store event given ≡ true → Grows store.events (after_event store given event)
  grows None event ok = grows-alone event ok
  grows (Some given) event ok = grows-with given event ok

one_at_most : (b : Bool) → cond b 1 0 ≤ 1
one_at_most true = omega arith
one_at_most false = omega arith

record Steady (limits : Limits) (store : Store) : Type 0 where
  sound : Sound limits store
  small : Small store

steady-after : (limits : Limits) (store : Store) (entry : Entry (List ℕ) Given) → allows limits store entry ≡ true → Steady limits store → Steady limits (after store entry)
steady-after limits store entry ok h =
    let g : Grows store.events (after_event store entry.given entry.event) = grows limits store h.sound.crew.sorted h.small entry.given entry.event ok in
    record {
      sound = sound-after limits store entry ok h.sound;
      small = record {
        version = omega (arith, h.small.version, version-after limits store entry ok, one_at_most (makes_version entry.event));
        opened = g.opened;
        flights = g.flights;
        requests = g.requests;
      };
    }

steady : (limits : Limits) (entries : Entries) → Legal limits entries → Steady limits (state entries)
steady limits = kept_along limits (Steady limits) (steady-after limits) (record {
  sound = sound-empty limits;
  small = record { version = omega arith; opened = omega arith; flights = omega arith; requests = λ n s is. cc };
})

tried : (l : Last) (attempt held most : ℕ) → Tries l attempt held → held ≤ most → (l ≡ last.Idle → ⊥) → attempt ≤ most + 1
tried last.Idle attempt held most t few busy = absurd (busy refl)
tried last.Pinned attempt held most t few busy = omega (arith, t, few)
tried last.Found attempt held most t few busy = omega (arith, t, few)
tried (last.Led f) attempt held most t few busy = omega (arith, t, few)
tried (last.Joined f) attempt held most t few busy = omega (arith, t, few)
tried (last.Evicted v) attempt held most t few busy = omega (arith, t, few)
tried (last.ReviseLed f) attempt held most t few busy = omega (arith, t, few)

pub bounded : (limits : Limits) (entries : Entries) → limits.held ≤ 64 → Legal limits entries → Bounded limits (state entries)
bounded limits entries held legal =
    let h = steady limits entries legal in
    let r = roomy limits held entries legal in
    record {
      version = h.small.version;
      opened = h.small.opened;
      flights = h.small.flights;
      requests = h.small.requests;
      attempts = λ n s is busy. let sits = h.sound.crew.each n s is in tried s.last s.attempt (length s.held) limits.held sits.tries sits.few busy;
      few = omega (arith, r.counted, r.room);
    }
