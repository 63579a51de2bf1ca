-- What is known of a session, and of a flight that it led, stays while none of its entries comes.
use Rattle.std.proofs.Common.{◌≡◌, ◌∙◌, ◌⊎◌, inl, inr, ℕ, ◌≤◌, Bool, true, false, List, [], ◌∷◌, ◌++◌, refl, sym, ap, subst, eq-eqb, nat_cmp}
use Rattle.std.specs.Prelude.{Option, Some, None, if◌then◌else◌, ◌==◌, unwrap_or}
use Rattle.std.specs.Ordering.{is_eq}
use Rattle.std.specs.Option.{option_map}
use Rattle.std.specs.Cmp.{nat_cmp_total, tied_itself}
use Rattle.ld_history.specs.After.{after, after_event, ended_as, with_flight}
use Rattle.ld_history.specs.ByTurns.{allows, LegalFrom}
use Rattle.ld_history.specs.Counts.{owner}
use Rattle.ld_history.specs.Legal.{Entries, Legal, replay, state}
use Rattle.ld_history.specs.Store.{Store, empty_store}
use Rattle.ld_history.specs.Words.{at_number, flight_at}
use Rattle.ld_history.specs.declared.event.Event.{Event}
use Rattle.ld_history.specs.declared.event.Event.TheVariants as event
use Rattle.ld_history.specs.declared.event.Entry.{Entry}
use Rattle.ld_history.specs.declared.event.Given.{Given}
use Rattle.ld_history.specs.declared.limits.Limits.{Limits}
use Rattle.ld_history.specs.declared.session.End.{End}
use Rattle.ld_history.specs.declared.session.End.TheVariants as end
use Rattle.ld_history.specs.declared.session.Flight.{Flight}
use Rattle.ld_history.specs.declared.session.Session.{Session}
use Rattle.ld_history.proofs.LawAlong.{legal-append, replay-append}
use Rattle.ld_history.proofs.LawCrew.{set_number_other}
use Rattle.ld_history.proofs.LawFlights.{flight_kept, flight_more, number_cases, put_number_other, take_number_other}
use Rattle.ld_history.proofs.LawSound.{Sound, sound, sound-after}
use Rattle.ld_history.proofs.LawTold.{by_turns}
use Rattle.ld_history.proofs.LawTracked.{is_inside, moved}
use Rattle.ld_own.specs.Adding.{Adds}
use Rattle.ld_own.specs.Own.{Placed, placed, own_placed_from}

-- an entry that isn't listed is of another session, and neither are those after it
unlisted : (mine : Bool) (p : Placed) (rest : List Placed) → (if mine then p ∷ [] else []) ++ rest ≡ [] → (mine ≡ false) × (rest ≡ [])
unlisted false p rest none = (refl, none)
unlisted true p rest none = cc

module _ (session : ℕ) (store : Store) (entry : Entry (List ℕ) Given) (more : Entries) (none : own_placed_from store session (entry ∷ more) ≡ []) where
  parts : ((owner store entry.event == session) ≡ false) × (own_placed_from (after store entry) session more ≡ [])
  parts = unlisted (owner store entry.event == session) (placed store entry) (own_placed_from (after store entry) session more) none

  of_another : owner store entry.event ≡ session → ⊥
  of_another same = let mine : (owner store entry.event == session) ≡ true = eq-eqb (owner store entry.event) session same in let other = parts.0 in cc

-- ---- flights
not_same : (n m : ℕ) → is_eq (nat_cmp n m) ≡ false → n ≡ m → ⊥
not_same n m apart same = let itself : is_eq (nat_cmp n m) ≡ true = ap (λ k. is_eq (nat_cmp k m)) same ∙ ap is_eq (tied_itself nat_cmp_total m) in cc

module _ (session number : ℕ) (f : Flight) (led : f.session ≡ session) where
  same_flight : (g : Flight) → Some g ≡ Some f → g ≡ f
  same_flight g e = cc

  -- where another session's flight has ended
  landed_on : (store : Store) (m : ℕ) (how : End) (now : List Flight) (o : Option Flight) → flight_at store.flights m ≡ o → (unwrap_or (option_map (λ (g : Flight). g.session) o) 0 ≡ session → ⊥)
      → flight_at store.flights number ≡ Some f → (number ≡ m) ⊎ (is_eq (nat_cmp number m) ≡ false) → (o ≡ None → now ≡ store.flights) → ((g : Flight) → o ≡ Some g → now ≡ ended_as store.flights m how) → flight_at now number ≡ Some f
  landed_on store m how now None at other is cases nothing something = ap (λ l. flight_at l number) (nothing refl) ∙ is
  landed_on store m how now (Some g) at other is (inl same) nothing something =
      let here : g ≡ f = same_flight g (sym at ∙ ap (flight_at store.flights) (sym same) ∙ is) in absurd (other (ap (λ (f : Flight). f.session) here ∙ led))
  landed_on store m how now (Some g) at other is (inr apart) nothing something =
      ap (λ l. flight_at l number) (something g refl) ∙ flight_kept store.flights m how number (not_same number m apart) ∙ is

  some_none : (g : Flight) → Some g ≡ None → ⊥
  some_none g e = cc

  with_kept : (store : Store) (m : ℕ) (how : End) (change : Flight → Store) → ((g : Flight) → (change g).flights ≡ ended_as store.flights m how) → (unwrap_or (option_map (λ (g : Flight). g.session) (flight_at store.flights m)) 0 ≡ session → ⊥)
      → flight_at store.flights number ≡ Some f → flight_at (with_flight store change (flight_at store.flights m)).flights number ≡ Some f
  with_kept store m how change ends other is = go (flight_at store.flights m) refl other
    where
      go : (o : Option Flight) → flight_at store.flights m ≡ o → (unwrap_or (option_map (λ (g : Flight). g.session) o) 0 ≡ session → ⊥) → flight_at (with_flight store change o).flights number ≡ Some f
      go None at other = is
      go (Some g) at other = landed_on store m how (change g).flights (Some g) at other is (number_cases number m) (λ none. absurd (some_none g none)) (λ h same. ends g)

  flight_on : (store : Store) (given : Option Given) (e : Event (List ℕ)) → (owner store e ≡ session → ⊥) → flight_at store.flights number ≡ Some f → flight_at (after_event store given e).flights number ≡ Some f
  flight_on store given (event.Opened s k) other is = is
  flight_on store given (event.Pinned s r t v) other is = is
  flight_on store given (event.Found s iri) other is = is
  flight_on store given (event.Led s iri m) other is = flight_more store.flights _ number f is
  flight_on store given (event.Joined s iri m) other is = is
  flight_on store None (event.Published m v) other is = is
  flight_on store (Some g) (event.Published m v) other is = with_kept store m (end.Published v) _ (λ _. refl) other is
  flight_on store given (event.Failed m x y) other is = with_kept store m (end.Failed x y) _ (λ _. refl) other is
  flight_on store given (event.Lapsed m) other is = with_kept store m end.Lapsed _ (λ _. refl) other is
  flight_on store given (event.Evicted s iri v) other is = is
  flight_on store given (event.ReviseLed s iri m) other is = flight_more store.flights _ number f is
  flight_on store given (event.Same m) other is = with_kept store m end.Same _ (λ _. refl) other is
  flight_on store given (event.Answered s r how) other is = is
  flight_on store given (event.Closed s) other is = is

  flight_stays : (store : Store) (more : Entries) → own_placed_from store session more ≡ [] → flight_at store.flights number ≡ Some f → flight_at (replay store more).flights number ≡ Some f
  flight_stays store [] none is = is
  flight_stays store (entry ∷ more) none is =
      flight_stays (after store entry) more (parts session store entry more none).1 (flight_on store entry.given entry.event (of_another session store entry more none) is)

-- a flight that the session led stands as it stood
pub flight_is_kept : (session number : ℕ) (f : Flight) (front later : Entries) → f.session ≡ session → Adds session front [] later
    → flight_at (state front).flights number ≡ Some f → flight_at (state later).flights number ≡ Some f
flight_is_kept session number f front later led adds is =
    ap (λ (s : Store). flight_at s.flights number) (sym (ap state adds.is) ∙ replay-append empty_store front adds.since) ∙ flight_stays session number f led (state front) adds.since adds.own is

-- ---- sessions
unequal : (session n : ℕ) → (n ≡ session → ⊥) → (session ≡ n) ⊎ (is_eq (nat_cmp session n) ≡ false) → is_eq (nat_cmp session n) ≡ false
unequal session n other (inl same) = absurd (other (sym same))
unequal session n other (inr apart) = apart

module _ (limits : Limits) (small : limits.held ≤ 64) (session : ℕ) (s : Session) where
  -- inside a session, its owner alone is changed
  session_inside : (store : Store) (given : Option Given) (e : Event (List ℕ)) → Sound limits store → (owner store e ≡ session → ⊥) → is_inside e ≡ true → allows limits store (record { event = e; given = given }) ≡ true
      → at_number store.sessions session ≡ Some s → at_number (after_event store given e).sessions session ≡ Some s
  session_inside store given e h other inside ok is =
      let m = moved limits small store h given e inside ok in
      ap (λ l. at_number l session) m.set ∙ set_number_other store.sessions (owner store e) m.t m.s m.is session (unequal session (owner store e) other (number_cases session (owner store e))) ∙ is

  session_on : (store : Store) (given : Option Given) (e : Event (List ℕ)) → Sound limits store → (owner store e ≡ session → ⊥) → allows limits store (record { event = e; given = given }) ≡ true
      → at_number store.sessions session ≡ Some s → at_number (after_event store given e).sessions session ≡ Some s
  session_on store given (event.Opened n k) h other ok is = put_number_other store.sessions n _ session (unequal session n other (number_cases session n)) ∙ is
  session_on store given (event.Closed n) h other ok is = take_number_other store.sessions n session (unequal session n other (number_cases session n)) ∙ is
  session_on store given (event.Pinned a r t v) h other ok is = session_inside store given (event.Pinned a r t v) h other refl ok is
  session_on store given (event.Found a iri) h other ok is = session_inside store given (event.Found a iri) h other refl ok is
  session_on store given (event.Led a iri m) h other ok is = session_inside store given (event.Led a iri m) h other refl ok is
  session_on store given (event.Joined a iri m) h other ok is = session_inside store given (event.Joined a iri m) h other refl ok is
  session_on store given (event.Published m v) h other ok is = session_inside store given (event.Published m v) h other refl ok is
  session_on store given (event.Failed m x y) h other ok is = session_inside store given (event.Failed m x y) h other refl ok is
  session_on store given (event.Lapsed m) h other ok is = session_inside store given (event.Lapsed m) h other refl ok is
  session_on store given (event.Evicted a iri v) h other ok is = session_inside store given (event.Evicted a iri v) h other refl ok is
  session_on store given (event.ReviseLed a iri m) h other ok is = session_inside store given (event.ReviseLed a iri m) h other refl ok is
  session_on store given (event.Same m) h other ok is = session_inside store given (event.Same m) h other refl ok is
  session_on store given (event.Answered a r how) h other ok is = session_inside store given (event.Answered a r how) h other refl ok is

  session_stays : (store : Store) (more : Entries) → Sound limits store → LegalFrom limits store more → own_placed_from store session more ≡ [] → at_number store.sessions session ≡ Some s
      → at_number (replay store more).sessions session ≡ Some s
  session_stays store [] h legal none is = is
  session_stays store (entry ∷ more) h legal none is =
      session_stays (after store entry) more (sound-after limits store entry legal.0 h) legal.1 (parts session store entry more none).1
      (session_on store entry.given entry.event h (of_another session store entry more none) legal.0 is)

-- what is known of an open session is what its own entries made it
pub session_is_kept : (limits : Limits) → limits.held ≤ 64 → (session : ℕ) (s : Session) (front later : Entries) → Legal limits later → Adds session front [] later
    → at_number (state front).sessions session ≡ Some s → at_number (state later).sessions session ≡ Some s
session_is_kept limits small session s front later legal adds is =
    let parts = legal-append limits empty_store front adds.since (by_turns limits (front ++ adds.since) (subst (Legal limits) (sym adds.is) legal)) in
    ap (λ (store : Store). at_number store.sessions session) (sym (ap state adds.is) ∙ replay-append empty_store front adds.since)
    ∙ session_stays limits small session s (state front) adds.since (sound limits front parts.0) parts.1 adds.own is
