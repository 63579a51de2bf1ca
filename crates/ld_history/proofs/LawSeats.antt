-- Each entry of a legal history has a seat: the session that it belongs to was opened, and an open session sits
-- where it was.
use Rattle.std.proofs.Common.{◌≡◌, ℕ, zero, suc, ◌<◌, List, [], ◌∷◌, ◌++◌, length, take, slice_get, refl, sym, ap, ◌∙◌, subst, arith, Option, Some, None, true, false, inl, inr, nat_cmp, eq-eqb}
use Rattle.std.specs.Prelude.{is_some, if◌then◌else◌, ◌==◌}
use Rattle.ld_history.specs.declared.limits.Limits.{Limits}
use Rattle.ld_history.specs.declared.event.Given.{Given}
use Rattle.ld_history.specs.declared.event.Event.{Event}
use Rattle.ld_history.specs.declared.event.Event.TheVariants as event
use Rattle.ld_history.specs.declared.event.Entry.{Entry}
use Rattle.ld_history.specs.declared.session.Session.{Session}
use Rattle.ld_history.specs.declared.session.Flight.{Flight}
use Rattle.ld_history.specs.declared.session.End.{End}
use Rattle.ld_history.specs.declared.session.End.TheVariants as end
use Rattle.ld_history.specs.Store.{Store, empty_store}
use Rattle.ld_history.specs.Words.{at_number, flight_at}
use Rattle.ld_history.specs.Rules.{allows_with}
use Rattle.ld_history.specs.After.{after, with_flight, landed, answered_by, changed, change_found, put_number, take_number, ended_as, begun}
use Rattle.ld_history.specs.Legal.{Entries, state}
use Rattle.ld_history.specs.Counts.{owner, leader}
use Rattle.ld_history.specs.Seats.{seat_or, opened_in, seat_of, seat_found}
use Rattle.ld_history.specs.ByTurns.{allows_alone, allows_given, allows, Legal}
use Rattle.std.specs.List.Sorted.{IsStrictlySortedBy}
use Rattle.std.specs.Map.{keys_of}
use Rattle.std.specs.Prelude.{unwrap_or, option_map}
use Rattle.std.proofs.lemmas.Bool.Decides.{nat_tests}
use Rattle.ld_history.proofs.LawAlong.{along, legal-append}
use Rattle.ld_history.proofs.LawReads.{read_open, read_pin, read_find, read_lead, read_join, read_fly, read_fail, read_publish, read_evict, read_revise, read_same, read_answer, read_close, Opens}
use Rattle.ld_history.proofs.LawFlights.{number_cases, put_number_same, put_number_other, take_number_same, take_number_other, flight_cases, flight_ended, flight_kept, apart_numbers}
use Rattle.ld_history.proofs.LawCrew.{Sessions, changed_cases, same_session}
use Rattle.ld_history.proofs.LawSound.{sound}
use Rattle.ld_history.proofs.LawStock.{pushed}

-- ---- where sessions were opened, as the list grows
or_more : (event : Event (List ℕ)) (a b : Option ℕ) (n seat : ℕ) → (a ≡ Some seat → b ≡ Some seat) → seat_or event n a ≡ Some seat → seat_or event n b ≡ Some seat
or_more (event.Opened own there) a b n seat up h =
    elim (own == n) as (λ t. (if t then Some there else a) ≡ Some seat → (if t then Some there else b) ≡ Some seat) [ true ↦ λ k. k | false ↦ λ k. up k ] h
or_more (event.Pinned session request attempt version) a b n seat up h = up h
or_more (event.Found session iri) a b n seat up h = up h
or_more (event.Led session iri flight) a b n seat up h = up h
or_more (event.Joined session iri flight) a b n seat up h = up h
or_more (event.Published flight version) a b n seat up h = up h
or_more (event.Failed flight before later) a b n seat up h = up h
or_more (event.Lapsed flight) a b n seat up h = up h
or_more (event.Evicted session iri version) a b n seat up h = up h
or_more (event.ReviseLed session iri flight) a b n seat up h = up h
or_more (event.Same flight) a b n seat up h = up h
or_more (event.Answered session request how) a b n seat up h = up h
or_more (event.Closed session) a b n seat up h = up h

opened_more : (xs ys : Entries) (n seat : ℕ) → opened_in xs n ≡ Some seat → opened_in (xs ++ ys) n ≡ Some seat
opened_more [] ys n seat h = cc
opened_more (e ∷ xs) ys n seat h = or_more e.event (opened_in xs n) (opened_in (xs ++ ys) n) n seat (λ k. opened_more xs ys n seat k) h

some_more : (xs ys : Entries) (n : ℕ) → is_some (opened_in xs n) ≡ true → is_some (opened_in (xs ++ ys) n) ≡ true
some_more xs ys n h = by_found (opened_in xs n) refl h
  where
    by_found : (o : Option ℕ) → opened_in xs n ≡ o → is_some o ≡ true → is_some (opened_in (xs ++ ys) n) ≡ true
    by_found None is k = cc
    by_found (Some seat) is k = ap is_some (opened_more xs ys n seat is)

-- an event that opens no session
abbrev IsQuiet : Event (List ℕ) → Type 0
IsQuiet event = (n : ℕ) (o : Option ℕ) → seat_or event n o ≡ o

opened_still : (xs : Entries) (entry : Entry (List ℕ) Given) → IsQuiet entry.event → (n : ℕ) → opened_in (xs ++ entry ∷ []) n ≡ opened_in xs n
opened_still [] entry quiet n = quiet n None
opened_still (e ∷ xs) entry quiet n = ap (seat_or e.event n) (opened_still xs entry quiet n)

none_before : (event : Event (List ℕ)) (a b c : Option ℕ) (n : ℕ) → (a ≡ None → b ≡ c) → seat_or event n a ≡ None → seat_or event n b ≡ c
none_before (event.Opened own there) a b c n up h =
    elim (own == n) as (λ t. (if t then Some there else a) ≡ None → (if t then Some there else b) ≡ c) [ true ↦ λ k. absurd (let bad : Some there ≡ None = k in cc) | false ↦ λ k. up k ] h
none_before (event.Pinned session request attempt version) a b c n up h = up h
none_before (event.Found session iri) a b c n up h = up h
none_before (event.Led session iri flight) a b c n up h = up h
none_before (event.Joined session iri flight) a b c n up h = up h
none_before (event.Published flight version) a b c n up h = up h
none_before (event.Failed flight before later) a b c n up h = up h
none_before (event.Lapsed flight) a b c n up h = up h
none_before (event.Evicted session iri version) a b c n up h = up h
none_before (event.ReviseLed session iri flight) a b c n up h = up h
none_before (event.Same flight) a b c n up h = up h
none_before (event.Answered session request how) a b c n up h = up h
none_before (event.Closed session) a b c n up h = up h

opened_new : (xs ys : Entries) (n : ℕ) → opened_in xs n ≡ None → opened_in (xs ++ ys) n ≡ opened_in ys n
opened_new [] ys n h = refl
opened_new (e ∷ xs) ys n h = none_before e.event (opened_in xs n) (opened_in (xs ++ ys) n) (opened_in ys n) n (λ k. opened_new xs ys n k) h

-- ---- what holds along
record Seated (store : Store) (entries : Entries) : Type 0 where
  seats : (n : ℕ) (s : Session) → at_number store.sessions n ≡ Some s → opened_in entries n ≡ Some s.seat
  leaders : (n : ℕ) (f : Flight) → flight_at store.flights n ≡ Some f → is_some (opened_in entries f.session) ≡ true
  fresh : (n : ℕ) → store.opened < n → opened_in entries n ≡ None

abbrev SameSeats : Sessions → Sessions → Type 0
SameSeats old new = (n : ℕ) (t : Session) → at_number new n ≡ Some t → (s : Session) × (at_number old n ≡ Some s) × (s.seat ≡ t.seat)

abbrev SameLeaders : List Flight → List Flight → Type 0
SameLeaders old new = (n : ℕ) (f : Flight) → flight_at new n ≡ Some f → (m : ℕ) × (g : Flight) × (flight_at old m ≡ Some g) × (g.session ≡ f.session)

same_leaders : (flights : List Flight) → SameLeaders flights flights
same_leaders flights n f is = (n, f, is, refl)

same_seats : (sessions : Sessions) → SameSeats sessions sessions
same_seats sessions n t is = (t, is, refl)

changed_seats : (sessions : Sessions) (n : ℕ) (g : Session → Session) → ((s : Session) → (g s).seat ≡ s.seat) → SameSeats sessions (changed sessions n g)
changed_seats sessions n g same q t now = by_found (at_number sessions n) refl
  where
    by_found : (o : Option Session) → at_number sessions n ≡ o → (s : Session) × (at_number sessions q ≡ Some s) × (s.seat ≡ t.seat)
    by_found None is = (t, ap (λ l. at_number l q) (sym (ap (change_found sessions n g) is)) ∙ now, refl)
    by_found (Some s) is = elim (changed_cases sessions n g s is q t now) [
      | inl e ↦ (s, ap (at_number sessions) e.0 ∙ is, sym (same s) ∙ ap (λ (x : Session). x.seat) e.1)
      | inr old ↦ (t, old, refl)
    ]

closed_seats : (sessions : Sessions) (n : ℕ) → IsStrictlySortedBy nat_cmp (keys_of sessions) → SameSeats sessions (take_number sessions n)
closed_seats sessions n sorted q t now = elim (number_cases q n) [
  | inl e ↦ absurd (let gone : at_number (take_number sessions n) q ≡ None = ap (at_number (take_number sessions n)) e ∙ take_number_same sessions n sorted in let bad : None ≡ Some t = sym gone ∙ now in cc)
  | inr apart ↦ (t, sym (take_number_other sessions n q apart) ∙ now, refl)
]

same_flight : (f g : Flight) → Some f ≡ Some g → f ≡ g
same_flight f g e = cc

ended_leaders : (flights : List Flight) (flight : ℕ) (how : End) (f : Flight) → flight_at flights flight ≡ Some f → SameLeaders flights (ended_as flights flight how)
ended_leaders flights flight how f is n g now = elim (number_cases n flight) [
  | inl e ↦
      let same : record f { end = how } ≡ g = same_flight (record f { end = how }) g (sym (flight_ended flights flight how f is) ∙ ap (flight_at (ended_as flights flight how)) (sym e) ∙ now) in
      (flight, f, is, ap (λ (x : Flight). x.session) same)
  | inr apart ↦ (n, g, sym (flight_kept flights flight how n (apart_numbers n flight apart)) ∙ now, refl)
]

module _ (front : Entries) (entry : Entry (List ℕ) Given) (quiet : IsQuiet entry.event) (old new : Store) (h : Seated old front) where
  -- no session is opened, and no flight is led
  seated-still : SameSeats old.sessions new.sessions → SameLeaders old.flights new.flights → new.opened ≡ old.opened → Seated new (front ++ entry ∷ [])
  seated-still seats leaders opened = record {
    seats = λ n t is. let was = seats n t is in opened_still front entry quiet n ∙ h.seats n was.0 was.1 ∙ ap Some was.2;
    leaders = λ n f is.
        let was = leaders n f is in ap is_some (opened_still front entry quiet f.session) ∙ ap (λ m. is_some (opened_in front m)) (sym was.3) ∙ h.leaders was.0 was.1 was.2;
    fresh = λ n lt. opened_still front entry quiet n ∙ h.fresh n (omega (arith, opened, lt));
  }

  -- a flight is led by an open session
  seated-begun : (iri : List ℕ) (κ : _) (session : ℕ) (s : Session) → at_number old.sessions session ≡ Some s → SameSeats old.sessions new.sessions → new.flights ≡ begun old.flights iri κ session
      → new.opened ≡ old.opened → Seated new (front ++ entry ∷ [])
  seated-begun iri κ session s there seats flights opened = record {
    seats = λ n t is. let was = seats n t is in opened_still front entry quiet n ∙ h.seats n was.0 was.1 ∙ ap Some was.2;
    leaders = λ n f is. elim (flight_cases old.flights _ n f (ap (λ l. flight_at l n) (sym flights) ∙ is)) [
      | inl was ↦ ap is_some (opened_still front entry quiet f.session) ∙ h.leaders n f was
      | inr e ↦ ap is_some (opened_still front entry quiet f.session) ∙ ap (λ m. is_some (opened_in front m)) (sym (ap (λ (x : Flight). x.session) e.1)) ∙ ap is_some (h.seats session s there)
    ];
    fresh = λ n lt. opened_still front entry quiet n ∙ h.fresh n (omega (arith, opened, lt));
  }

module _ (limits : Limits) (front : Entries) (store : Store) (h : Seated store front) where
  own_seat : (session seat : ℕ) → opened_in (record { event = event.Opened session seat; given = None } ∷ []) session ≡ Some seat
  own_seat session seat = ap (λ t. if t then Some seat else None) (eq-eqb session session refl)

  other_seat : (session seat n : ℕ) → session < n → opened_in (record { event = event.Opened session seat; given = None } ∷ []) n ≡ None
  other_seat session seat n lt = let apart : (session == n) ≡ false = grind (arith, nat_tests) in ap (λ t. if t then Some seat else None) apart

  opened_now : (session seat : ℕ) → Opens limits store session seat → opened_in (front ++ record { event = event.Opened session seat; given = None } ∷ []) session ≡ Some seat
  opened_now session seat p = opened_new front _ session (h.fresh session (omega (arith, p.next))) ∙ own_seat session seat

  seated-opened : (session seat : ℕ) → Opens limits store session seat
      → Seated (after store (record { event = event.Opened session seat; given = None })) (front ++ record { event = event.Opened session seat; given = None } ∷ [])
  seated-opened session seat p = record {
    seats = λ n t is. elim (number_cases n session) [
      | inl e ↦
          let same : _ ≡ t = same_session _ t (sym (put_number_same store.sessions session _) ∙ ap (at_number (put_number store.sessions session _)) (sym e) ∙ is) in
          ap (opened_in (front ++ record { event = event.Opened session seat; given = None } ∷ [])) e ∙ opened_now session seat p ∙ ap (λ (x : Session). Some x.seat) same
      | inr apart ↦ opened_more front _ n t.seat (h.seats n t (sym (put_number_other store.sessions session _ n apart) ∙ is))
    ];
    leaders = λ n f is. some_more front _ f.session (h.leaders n f is);
    fresh = λ n lt. opened_new front _ n (h.fresh n (omega (arith, p.next, lt))) ∙ other_seat session seat n lt;
  }

-- ---- an allowed event
module _ (limits : Limits) (front : Entries) (legal : Legal limits front) (store : Store) (is : state front ≡ store) (h : Seated store front) where
  sorted : IsStrictlySortedBy nat_cmp (keys_of store.sessions)
  sorted = subst (λ (s : Store). IsStrictlySortedBy nat_cmp (keys_of s.sessions)) is (sound limits front legal).crew.sorted

  lands : (entry : Entry (List ℕ) Given) (flight : ℕ) (how : End) (f : Flight) → IsQuiet entry.event → flight_at store.flights flight ≡ Some f → (new : Store) → new.sessions ≡ store.sessions
      → new.flights ≡ ended_as store.flights flight how → new.opened ≡ store.opened → Seated new (front ++ entry ∷ [])
  lands entry flight how f quiet there new sessions flights opened = seated-still front entry quiet store new h
      (subst (SameSeats store.sessions) (sym sessions) (same_seats store.sessions)) (subst (SameLeaders store.flights) (sym flights) (ended_leaders store.flights flight how f there)) opened

  seated-alone : (event : Event (List ℕ)) → allows_alone limits store event ≡ true → Seated (after store (record { event = event; given = None })) (front ++ record { event = event; given = None } ∷ [])
  seated-alone (event.Opened session seat) ok = seated-opened limits front store h session seat (read_open limits store session seat ok)
  seated-alone (event.Pinned session request attempt version) ok =
      seated-still front _ (λ n o. refl) store _ h (changed_seats store.sessions session _ (λ s. refl)) (same_leaders store.flights) refl
  seated-alone (event.Found session iri) ok =
      seated-still front _ (λ n o. refl) store _ h (changed_seats store.sessions session _ (λ s. refl)) (same_leaders store.flights) refl
  seated-alone (event.Led session iri flight) ok =
      let p = read_lead limits store session iri flight ok in
      seated-begun front _ (λ n o. refl) store _ h iri _ session p.s p.is (changed_seats store.sessions session _ (λ s. refl)) refl refl
  seated-alone (event.Joined session iri flight) ok =
      seated-still front _ (λ n o. refl) store _ h (changed_seats store.sessions session _ (λ s. refl)) (same_leaders store.flights) refl
  seated-alone (event.Published flight version) ok = cc
  seated-alone (event.Failed flight before later) ok =
      let p = read_fly store flight (read_fail store flight before later ok) in
      let new : (o : Option Flight) → Store = λ o. with_flight store (landed store flight (end.Failed before later)) o in
      lands _ flight (end.Failed before later) p.f (λ n o. refl) p.is _ (ap (λ o. (new o).sessions) p.is) (ap (λ o. (new o).flights) p.is) (ap (λ o. (new o).opened) p.is)
  seated-alone (event.Lapsed flight) ok =
      let p = read_fly store flight ok in
      let new : (o : Option Flight) → Store = λ o. with_flight store (landed store flight end.Lapsed) o in
      lands _ flight end.Lapsed p.f (λ n o. refl) p.is _ (ap (λ o. (new o).sessions) p.is) (ap (λ o. (new o).flights) p.is) (ap (λ o. (new o).opened) p.is)
  seated-alone (event.Evicted session iri version) ok =
      seated-still front _ (λ n o. refl) store _ h (changed_seats store.sessions session _ (λ s. refl)) (same_leaders store.flights) refl
  seated-alone (event.ReviseLed session iri flight) ok =
      let p = read_revise limits store session iri flight ok in
      seated-begun front _ (λ n o. refl) store _ h iri _ session p.s p.is (changed_seats store.sessions session _ (λ s. refl)) refl refl
  seated-alone (event.Same flight) ok = cc
  seated-alone (event.Answered session request how) ok =
      seated-still front _ (λ n o. refl) store _ h (changed_seats store.sessions session _ (λ s. refl)) (same_leaders store.flights) refl
  seated-alone (event.Closed session) ok =
      seated-still front _ (λ n o. refl) store _ h (closed_seats store.sessions session sorted) (same_leaders store.flights) refl

  seated-with : (given : Given) (event : Event (List ℕ)) → allows_with store given event ≡ true
      → Seated (after store (record { event = event; given = Some given })) (front ++ record { event = event; given = Some given } ∷ [])
  seated-with given (event.Published flight version) ok =
      let p = (read_publish store flight version given ok).flies in
      let new : (o : Option Flight) → Store = λ o. with_flight store (answered_by store flight version given) o in
      lands _ flight (end.Published version) p.f (λ n o. refl) p.is _ (ap (λ o. (new o).sessions) p.is) (ap (λ o. (new o).flights) p.is) (ap (λ o. (new o).opened) p.is)
  seated-with given (event.Same flight) ok =
      let p = read_same store flight given ok in
      let new : (o : Option Flight) → Store = λ o. with_flight store (landed store flight end.Same) o in
      lands _ flight end.Same p.f (λ n o. refl) p.is _ (ap (λ o. (new o).sessions) p.is) (ap (λ o. (new o).flights) p.is) (ap (λ o. (new o).opened) p.is)
  seated-with given event ok = cc

  seated-event : (event : Event (List ℕ)) (given : Option Given) → allows_given limits store event given ≡ true
      → Seated (after store (record { event = event; given = given })) (front ++ record { event = event; given = given } ∷ [])
  seated-event event None ok = seated-alone event ok
  seated-event event (Some given) ok = seated-with given event ok

  -- whose the entry is was opened
  some_open : (entry : Entry (List ℕ) Given) (session : ℕ) (s : Session) → at_number store.sessions session ≡ Some s → is_some (opened_in (front ++ entry ∷ []) session) ≡ true
  some_open entry session s there = some_more front (entry ∷ []) session (ap is_some (h.seats session s there))

  some_leader : (entry : Entry (List ℕ) Given) (flight : ℕ) (f : Flight) → flight_at store.flights flight ≡ Some f → is_some (opened_in (front ++ entry ∷ []) (leader store flight)) ≡ true
  some_leader entry flight f there = some_more front (entry ∷ []) (leader store flight)
      (ap (λ o. is_some (opened_in front (unwrap_or (option_map (λ (x : Flight). x.session) o) 0))) there ∙ h.leaders flight f there)

  owned-alone : (event : Event (List ℕ)) → allows_alone limits store event ≡ true → is_some (opened_in (front ++ record { event = event; given = None } ∷ []) (owner store event)) ≡ true
  owned-alone (event.Opened session seat) ok = ap is_some (opened_now limits front store h session seat (read_open limits store session seat ok))
  owned-alone (event.Pinned session request attempt version) ok = let p = read_pin limits store session request attempt version ok in some_open _ session p.s p.is
  owned-alone (event.Found session iri) ok = let p = read_find limits store session iri ok in some_open _ session p.s p.is
  owned-alone (event.Led session iri flight) ok = let p = read_lead limits store session iri flight ok in some_open _ session p.s p.is
  owned-alone (event.Joined session iri flight) ok = let p = read_join limits store session iri flight ok in some_open _ session p.s p.is
  owned-alone (event.Published flight version) ok = cc
  owned-alone (event.Failed flight before later) ok = let p = read_fly store flight (read_fail store flight before later ok) in some_leader _ flight p.f p.is
  owned-alone (event.Lapsed flight) ok = let p = read_fly store flight ok in some_leader _ flight p.f p.is
  owned-alone (event.Evicted session iri version) ok = let p = read_evict store session iri version ok in some_open _ session p.s p.is
  owned-alone (event.ReviseLed session iri flight) ok = let p = read_revise limits store session iri flight ok in some_open _ session p.s p.is
  owned-alone (event.Same flight) ok = cc
  owned-alone (event.Answered session request how) ok = let p = read_answer limits store session request how ok in some_open _ session p.s p.is
  owned-alone (event.Closed session) ok = let p = read_close store session ok in some_open _ session p.s p.is

  owned-with : (given : Given) (event : Event (List ℕ)) → allows_with store given event ≡ true → is_some (opened_in (front ++ record { event = event; given = Some given } ∷ []) (owner store event)) ≡ true
  owned-with given (event.Published flight version) ok = let p = (read_publish store flight version given ok).flies in some_leader _ flight p.f p.is
  owned-with given (event.Same flight) ok = let p = read_same store flight given ok in some_leader _ flight p.f p.is
  owned-with given event ok = cc

  owned-event : (event : Event (List ℕ)) (given : Option Given) → allows_given limits store event given ≡ true
      → is_some (opened_in (front ++ record { event = event; given = given } ∷ []) (owner store event)) ≡ true
  owned-event event None ok = owned-alone event ok
  owned-event event (Some given) ok = owned-with given event ok

-- ---- legal histories
seated-empty : Seated empty_store []
seated-empty = record {
  seats = λ n s is. cc;
  leaders = λ n f is. absurd (nothing n f is);
  fresh = λ n lt. refl;
}
  where
    nothing : (n : ℕ) (f : Flight) → flight_at [] n ≡ Some f → ⊥
    nothing zero f e = cc
    nothing (suc n) f e = cc

seated : (limits : Limits) (entries : Entries) → Legal limits entries → Seated (state entries) entries
seated limits = along limits (λ entries. Seated (state entries) entries) one seated-empty
  where
    one : (front : Entries) (entry : Entry (List ℕ) Given) → Legal limits front → allows limits (state front) entry ≡ true → Seated (state front) front → Seated (state (front ++ entry ∷ [])) (front ++ entry ∷ [])
    one front entry legal ok h = subst (λ s. Seated s (front ++ entry ∷ [])) (sym (pushed front entry)) (seated-event limits front legal (state front) refl h entry.event entry.given ok)

pub seat_is : (limits : Limits) (entries : Entries) (session : ℕ) (s : Session) → Legal limits entries → at_number (state entries).sessions session ≡ Some s → opened_in entries session ≡ Some s.seat
seat_is limits entries session s legal is = (seated limits entries legal).seats session s is

split_at : {X : Type 0} (xs : List X) (i : ℕ) → i < length xs → (x : X) × (back : List X) × (slice_get xs i ≡ Some x) × (take i xs ++ x ∷ back ≡ xs)
split_at [] i lt = absurd (omega arith)
split_at (x ∷ xs) zero lt = (x, xs, refl, refl)
split_at (x ∷ xs) (suc i) lt = let r = split_at xs i (omega arith) in (r.0, r.1, r.2, ap (λ zs. x ∷ zs) r.3)

pub each_has_seat : (limits : Limits) (entries : Entries) (place : ℕ) → Legal limits entries → place < length entries → is_some (seat_of entries place) ≡ true
each_has_seat limits entries place legal lt =
    let r = split_at entries place lt in
    let parts = legal-append limits empty_store (take place entries) (r.0 ∷ r.1) (subst (Legal limits) (sym r.3) legal) in
    ap (λ o. is_some (seat_found (take place entries) o)) r.2
    ∙ owned-event limits (take place entries) parts.0 (state (take place entries)) refl (seated limits (take place entries) parts.0) r.0.event r.0.given parts.1.0
