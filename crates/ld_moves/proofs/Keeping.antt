-- What is known of sessions and flights at a front is so at the next turn.
use Rattle.std.proofs.Common.{◌≡◌, ◌∙◌, ◌⊎◌, inl, inr, ℕ, ◌≤◌, true, false, List, [], ◌∷◌, ◌++◌, refl, sym, ap, subst, nat_cmp}
use Rattle.std.specs.Prelude.{Option, Some, None, is_some}
use Rattle.std.specs.Option.{option_map}
use Rattle.std.specs.Ordering.{is_eq}
use mathlib.Core.List.{IsPrefix}
use Rattle.ld_history.specs.After.{after, after_event, ended_as, with_flight}
use Rattle.ld_history.specs.ByTurns.{allows, LegalFrom}
use Rattle.ld_history.specs.Legal.{Entries, Legal, is_in_stock, replay, state}
use Rattle.ld_history.specs.Rules.{end_of, is_flying}
use Rattle.ld_history.specs.Store.{Store, empty_store}
use Rattle.ld_history.specs.Words.{at_iri, flight_at, is_some_and, is_under_way}
use Rattle.ld_history.specs.declared.event.Event.{Event}
use Rattle.ld_history.specs.declared.event.Event.TheVariants as event
use Rattle.ld_history.specs.declared.event.Given.{Given}
use Rattle.ld_history.specs.declared.limits.Limits.{Limits}
use Rattle.ld_history.specs.declared.session.End.{End}
use Rattle.ld_history.specs.declared.session.End.TheVariants as end
use Rattle.ld_history.specs.declared.session.Flight.{Flight}
use Rattle.ld_history.specs.declared.session.Session.{Session}
use Rattle.ld_history.proofs.LawAlong.{legal-append, replay-append}
use Rattle.ld_history.proofs.LawFlights.{apart_numbers, flight_ended, flight_kept, flight_more, number_cases}
use Rattle.ld_history.proofs.LawReads.{Flies, read_fail, read_publish, read_same}
use Rattle.ld_history.proofs.LawStock.{stock_stays}
use Rattle.ld_history.proofs.LawTold.{by_turns}
use Rattle.ld_own.proofs.Keeping.{flight_is_kept, session_is_kept}
use Rattle.ld_book.specs.Pages.{Booked, Pages, entries_of}
use Rattle.ld_moves.specs.Moving.{Finds, version_in}
use Rattle.ld_moves.specs.Standing.{IsFlightAt, IsOf, IsOpenAt}
use Rattle.ld_moves.proofs.Staying.{entries_on}

-- ---- a flight stays a flight for its IRI
module _ (number : ℕ) (iri : List ℕ) where
  abbrev There : List Flight → Type 0
  There flights = (f : Flight) × (flight_at flights number ≡ Some f) × (f.iri ≡ iri)

  there_more : (flights more : List Flight) → There flights → There (flights ++ more)
  there_more flights more h = (h.0, flight_more flights more number h.0 h.1, h.2)

  there_ended : (flights : List Flight) (m : ℕ) (how : End) → There flights → There (ended_as flights m how)
  there_ended flights m how h = go (number_cases number m)
    where
      go : (number ≡ m) ⊎ (is_eq (nat_cmp number m) ≡ false) → There (ended_as flights m how)
      go (inl same) = (record h.0 { end = how }, ap (flight_at (ended_as flights m how)) same ∙ flight_ended flights m how h.0 (ap (flight_at flights) (sym same) ∙ h.1), h.2)
      go (inr apart) = (h.0, flight_kept flights m how number (apart_numbers number m apart) ∙ h.1, h.2)

  there_with : (store : Store) (m : ℕ) (how : End) (change : Flight → Store) → ((g : Flight) → (change g).flights ≡ ended_as store.flights m how) → There store.flights → (o : Option Flight) → There (with_flight store change o).flights
  there_with store m how change ends h None = h
  there_with store m how change ends h (Some g) = subst There (sym (ends g)) (there_ended store.flights m how h)

  there_event : (store : Store) (given : Option Given) (e : Event (List ℕ)) → There store.flights → There (after_event store given e).flights
  there_event store given (event.Opened s k) h = h
  there_event store given (event.Pinned s r t v) h = h
  there_event store given (event.Found s own) h = h
  there_event store given (event.Led s own m) h = there_more store.flights _ h
  there_event store given (event.Joined s own m) h = h
  there_event store None (event.Published m v) h = h
  there_event store (Some g) (event.Published m v) h = there_with store m (end.Published v) _ (λ _. refl) h (flight_at store.flights m)
  there_event store given (event.Failed m x y) h = there_with store m (end.Failed x y) _ (λ _. refl) h (flight_at store.flights m)
  there_event store given (event.Lapsed m) h = there_with store m end.Lapsed _ (λ _. refl) h (flight_at store.flights m)
  there_event store given (event.Evicted s own v) h = h
  there_event store given (event.ReviseLed s own m) h = there_more store.flights _ h
  there_event store given (event.Same m) h = there_with store m end.Same _ (λ _. refl) h (flight_at store.flights m)
  there_event store given (event.Answered s r how) h = h
  there_event store given (event.Closed s) h = h

  there_from : (store : Store) (entries : Entries) → There store.flights → There (replay store entries).flights
  there_from store [] h = h
  there_from store (entry ∷ entries) h = there_from (after store entry) entries (there_event store entry.given entry.event h)

-- ---- a flight that ended stays as it is
module _ (limits : Limits) (number : ℕ) (f : Flight) (over : is_under_way f.end ≡ false) where
  kept_with : (store : Store) (m : ℕ) (how : End) (change : Flight → Store) → ((g : Flight) → (change g).flights ≡ ended_as store.flights m how) → is_flying store m ≡ true
      → flight_at store.flights number ≡ Some f → flight_at (with_flight store change (flight_at store.flights m)).flights number ≡ Some f
  kept_with store m how change ends flying is = cases (number_cases number m)
    where
      other : (number ≡ m → ⊥) → (o : Option Flight) → flight_at (with_flight store change o).flights number ≡ Some f
      other apart None = is
      other apart (Some g) = ap (λ l. flight_at l number) (ends g) ∙ flight_kept store.flights m how number apart ∙ is

      cases : (number ≡ m) ⊎ (is_eq (nat_cmp number m) ≡ false) → flight_at (with_flight store change (flight_at store.flights m)).flights number ≡ Some f
      cases (inl same) =
          let flies : is_under_way f.end ≡ true = sym (ap (is_some_and (λ (g : Flight). is_under_way g.end)) (ap (flight_at store.flights) (sym same) ∙ is)) ∙ flying in
          cc
      cases (inr apart) = other (apart_numbers number m apart) (flight_at store.flights m)

  flies_so : (store : Store) (m : ℕ) → Flies store m → is_flying store m ≡ true
  flies_so store m p = ap (is_some_and (λ (g : Flight). is_under_way g.end)) p.is ∙ ap is_under_way p.flying

  kept_event : (store : Store) (given : Option Given) (e : Event (List ℕ)) → allows limits store (record { event = e; given = given }) ≡ true → flight_at store.flights number ≡ Some f
      → flight_at (after_event store given e).flights number ≡ Some f
  kept_event store given (event.Opened s k) ok is = is
  kept_event store given (event.Pinned s r t v) ok is = is
  kept_event store given (event.Found s own) ok is = is
  kept_event store given (event.Led s own m) ok is = flight_more store.flights _ number f is
  kept_event store given (event.Joined s own m) ok is = is
  kept_event store None (event.Published m v) ok is = is
  kept_event store (Some g) (event.Published m v) ok is = kept_with store m (end.Published v) _ (λ _. refl) (flies_so store m (read_publish store m v g ok).flies) is
  kept_event store None (event.Failed m x y) ok is = kept_with store m (end.Failed x y) _ (λ _. refl) (read_fail store m x y ok) is
  kept_event store (Some g) (event.Failed m x y) ok is = cc
  kept_event store None (event.Lapsed m) ok is = kept_with store m end.Lapsed _ (λ _. refl) ok is
  kept_event store (Some g) (event.Lapsed m) ok is = cc
  kept_event store given (event.Evicted s own v) ok is = is
  kept_event store given (event.ReviseLed s own m) ok is = flight_more store.flights _ number f is
  kept_event store None (event.Same m) ok is = cc
  kept_event store (Some g) (event.Same m) ok is = kept_with store m end.Same _ (λ _. refl) (flies_so store m (read_same store m g ok)) is
  kept_event store given (event.Answered s r how) ok is = is
  kept_event store given (event.Closed s) ok is = is

  kept_from : (store : Store) (entries : Entries) → LegalFrom limits store entries → flight_at store.flights number ≡ Some f → flight_at (replay store entries).flights number ≡ Some f
  kept_from store [] h is = is
  kept_from store (entry ∷ entries) h is = kept_from (after store entry) entries h.1 (kept_event store entry.given entry.event h.0 is)

replayed_on : (front later : Pages) (p : IsPrefix front later) → state (entries_of later) ≡ replay (state (entries_of front)) (entries_of p.0)
replayed_on front later p = sym (ap (λ pages. state (entries_of pages)) p.1) ∙ ap state (entries_on front p.0) ∙ replay-append empty_store (entries_of front) (entries_of p.0)

pub of_stays : (front later : Pages) → IsPrefix front later → (number : ℕ) (iri : List ℕ) → IsOf front number iri → IsOf later number iri
of_stays front later p number iri h =
    let there = there_from number iri (state (entries_of front)) (entries_of p.0) (h.flight, h.is, h.iri_is) in
    record { flight = there.0; is = ap (λ (s : Store). flight_at s.flights number) (replayed_on front later p) ∙ there.1; iri_is = there.2 }

module _ (session : ℕ) (limits : Limits) (front : Pages) (found : Booked) (f : Finds session limits front found) where
  replayed : state (entries_of found.pages) ≡ replay (state (entries_of front)) (entries_of f.grows.0)
  replayed = replayed_on front found.pages f.grows

  legal_parts : LegalFrom limits (state (entries_of front)) (entries_of f.grows.0)
  legal_parts =
      (legal-append limits empty_store (entries_of front) (entries_of f.grows.0)
      (by_turns limits (entries_of front ++ entries_of f.grows.0) (subst (Legal limits) (sym (ap entries_of f.grows.1) ∙ entries_on front f.grows.0) f.sound.legal))).1

  pub session_found : (s : Session) → IsOpenAt front session s → IsOpenAt found.pages session s
  session_found s is = session_is_kept limits f.sound.within.held session s (entries_of front) (entries_of found.pages) f.sound.legal f.quiet is

  pub led_found : (number : ℕ) (flight : Flight) → flight.session ≡ session → IsFlightAt front number flight → IsFlightAt found.pages number flight
  led_found number flight led is = flight_is_kept session number flight (entries_of front) (entries_of found.pages) led f.quiet is

  pub ended_found : (number : ℕ) (how : End) → is_under_way how ≡ false → end_of (state (entries_of front)) number ≡ Some how → end_of (state (entries_of found.pages)) number ≡ Some how
  ended_found number how over is = go (flight_at (state (entries_of front)).flights number) refl is
    where
      same_end : (a b : End) → Some a ≡ Some b → a ≡ b
      same_end a b e = cc

      go : (o : Option Flight) → flight_at (state (entries_of front)).flights number ≡ o → option_map (λ (g : Flight). g.end) o ≡ Some how → end_of (state (entries_of found.pages)) number ≡ Some how
      go None at e = cc
      go (Some g) at e =
          ap (λ (s : Store). end_of s number) replayed
          ∙ ap (option_map (λ (g : Flight). g.end)) (kept_from limits number g (ap is_under_way (same_end g.end how e) ∙ over) (state (entries_of front)) (entries_of f.grows.0) legal_parts at) ∙ e

stock_alike : (limits : Limits) (front more : Entries) (iri : List ℕ) (version : ℕ) → Legal limits (front ++ more) → version ≤ (state front).version → is_in_stock (front ++ more) iri version ≡ is_in_stock front iri version
unfolding is_in_stock
stock_alike limits front more iri version legal le = ap (λ es. is_some (at_iri es iri)) (stock_stays limits front more (by_turns limits (front ++ more) legal) version le)

pub in_stock_found : (session : ℕ) (limits : Limits) (front : Pages) (found : Booked) → Finds session limits front found → (iri : List ℕ) (version : ℕ) → version ≤ version_in front
    → is_in_stock (entries_of found.pages) iri version ≡ is_in_stock (entries_of front) iri version
in_stock_found session limits front found f iri version le =
    let same : entries_of found.pages ≡ entries_of front ++ entries_of f.grows.0 = sym (ap entries_of f.grows.1) ∙ entries_on front f.grows.0 in
    ap (λ entries. is_in_stock entries iri version) same ∙ stock_alike limits (entries_of front) (entries_of f.grows.0) iri version (subst (Legal limits) same f.sound.legal) le
