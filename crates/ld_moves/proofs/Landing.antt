-- The ends of flights.
use Rattle.std.proofs.Common.{◌≡◌, ◌∙◌, ◌⊎◌, inl, inr, ℕ, ◌+◌, ◌≤◌, Bool, true, false, List, [], ◌∷◌, ◌++◌, refl, sym, ap, arith, append-nil, eq-eqb}
use Rattle.std.specs.Prelude.{Some, None, unwrap_or, ◌==◌}
use Rattle.std.specs.Option.{option_map}
use Rattle.ld_edge.specs.Faults.{Rose}
use Rattle.ld_flight.specs.declared.given.Given as loader
use Rattle.ld_history.specs.After.{after, landed, with_flight}
use Rattle.ld_history.specs.Legal.{state}
use Rattle.ld_history.specs.Rules as rules
use Rattle.ld_history.specs.Rules.{end_of}
use Rattle.ld_history.specs.Steps as steps
use Rattle.ld_history.specs.Steps.{Taken, appended, plain}
use Rattle.ld_history.specs.Store.{Store}
use Rattle.ld_history.specs.Words.{at_number, flight_at}
use Rattle.ld_history.specs.declared.event.Event.TheVariants as event
use Rattle.ld_history.specs.declared.limits.Limits.{Limits}
use Rattle.ld_history.specs.declared.session.End.TheVariants as end
use Rattle.ld_history.specs.declared.session.Flight.{Flight}
use Rattle.ld_history.specs.declared.session.Session.{Session}
use Rattle.ld_history.proofs.LawFlights.{flight_ended}
use Rattle.ld_own.specs.Loads.{IsFor}
use Rattle.ld_own.specs.Own.{placed}
use Rattle.ld_fits.specs.Play.{Lacking, Reloading, Stage}
use Rattle.ld_book.specs.Pages.{Booked, Pages, after_step, entries_of, history_of}
use Rattle.ld_moves.specs.Moving.{Finds, Moves, place}
use Rattle.ld_moves.specs.Standing.{IsFlightAt, IsOpenAt, IsWaiting}
use Rattle.ld_moves.proofs.Stepping.{after_one, as_step}
use Rattle.ld_moves.proofs.Taking.{one_moves, plain_is_page, plain_page}

module _ (session : ℕ) (limits : Limits) (front : Pages) (found : Booked) (f : Finds session limits front found) (number : ℕ) (flight : Flight) (led : flight.session ≡ session) (there : IsFlightAt found.pages number flight) where
  abbrev store : Store
  store = state (entries_of found.pages)

  -- how it ended is the session's own
  pub own_end : (unwrap_or (option_map (λ (g : Flight). g.session) (flight_at store.flights number)) 0 == session) ≡ true
  own_end = ap (λ o. unwrap_or (option_map (λ (g : Flight). g.session) o) 0 == session) there ∙ eq-eqb flight.session session led

  -- ---- a failure
  module _ (before after_it : ℕ) (t : Taken (Unit {0})) (is : steps.fail_step (history_of found) number before after_it ≡ Some t) where
    fail_parts : (b : Bool) → rules.may_fail store number before after_it ≡ b → steps.where_ b (steps.taken tt (plain (event.Failed number before after_it) ∷ [])) ≡ Some t
        → (rules.may_fail store number before after_it ≡ true) × (t.entries ≡ plain (event.Failed number before after_it) ∷ [])
    fail_parts true ok e = (ok, cc)
    fail_parts false ok e = cc

    fail_is : (rules.may_fail store number before after_it ≡ true) × (t.entries ≡ plain (event.Failed number before after_it) ∷ [])
    fail_is = fail_parts (rules.may_fail store number before after_it) refl is

    pub fail_moves : Rose before after_it → (stage : Stage) → IsWaiting stage → (given : List loader.Given) (low : ℕ) → low ≤ before
        → Moves session (place limits front given low stage) (place limits (after_step found (steps.fail_step (history_of found) number before after_it)).pages given after_it stage)
    fail_moves rose (Lacking r op envelope iri) waits given low le =
        as_step found (steps.fail_step (history_of found) number before after_it) (λ pages. Moves session (place limits front given low (Lacking r op envelope iri)) (place limits pages given after_it (Lacking r op envelope iri)))
        (plain (event.Failed number before after_it) ∷ []) (ap appended is ∙ fail_is.1)
        (one_moves session limits front found f (plain_page (event.Failed number before after_it)) fail_is.0 (plain_is_page limits store (event.Failed number before after_it) fail_is.0) own_end
        (Lacking r op envelope iri) tt given given [] refl (sym (append-nil given)) low after_it (le, rose, omega arith))
    fail_moves rose (Reloading r iri) waits given low le =
        as_step found (steps.fail_step (history_of found) number before after_it) (λ pages. Moves session (place limits front given low (Reloading r iri)) (place limits pages given after_it (Reloading r iri)))
        (plain (event.Failed number before after_it) ∷ []) (ap appended is ∙ fail_is.1)
        (one_moves session limits front found f (plain_page (event.Failed number before after_it)) fail_is.0 (plain_is_page limits store (event.Failed number before after_it) fail_is.0) own_end
        (Reloading r iri) tt given given [] refl (sym (append-nil given)) low after_it (le, rose, omega arith))
    fail_moves rose _ waits given low le = absurd waits

    fail_now : after store (plain (event.Failed number before after_it)) ≡ record (landed store number (end.Failed before after_it) flight) { events = store.events + 1; evicted = None }
    fail_now = ap (λ o. record (with_flight store (landed store number (end.Failed before after_it)) o) { events = store.events + 1; evicted = None }) there

    pub fail_ends : end_of (state (entries_of (after_step found (steps.fail_step (history_of found) number before after_it)).pages)) number ≡ Some (end.Failed before after_it)
    fail_ends =
        as_step found (steps.fail_step (history_of found) number before after_it) (λ pages. end_of (state (entries_of pages)) number ≡ Some (end.Failed before after_it)) (plain (event.Failed number before after_it) ∷ []) (ap appended is ∙ fail_is.1)
        (ap (λ (s : Store). end_of s number) (after_one session limits front found f (event.Failed number before after_it) ∙ fail_now)
        ∙ ap (option_map (λ (g : Flight). g.end)) (flight_ended store.flights number (end.Failed before after_it) flight there))

    pub fail_stands : (s : Session) → IsOpenAt found.pages session s → IsOpenAt (after_step found (steps.fail_step (history_of found) number before after_it)).pages session s
    fail_stands s open_as =
        as_step found (steps.fail_step (history_of found) number before after_it) (λ pages. IsOpenAt pages session s) (plain (event.Failed number before after_it) ∷ []) (ap appended is ∙ fail_is.1)
        (ap (λ (st : Store). at_number st.sessions session) (after_one session limits front found f (event.Failed number before after_it) ∙ fail_now) ∙ open_as)

  -- ---- a lapse
  module _ (t : Taken (Unit {0})) (is : steps.lapse_step (history_of found) number ≡ Some t) where
    lapse_parts : (b : Bool) → rules.may_lapse store number ≡ b → steps.where_ b (steps.taken tt (plain (event.Lapsed number) ∷ [])) ≡ Some t → (rules.may_lapse store number ≡ true) × (t.entries ≡ plain (event.Lapsed number) ∷ [])
    lapse_parts true ok e = (ok, cc)
    lapse_parts false ok e = cc

    lapse_is : (rules.may_lapse store number ≡ true) × (t.entries ≡ plain (event.Lapsed number) ∷ [])
    lapse_is = lapse_parts (rules.may_lapse store number) refl is

    -- the loader gave nothing, or an answer for the flight
    abbrev pub LapseGains : List loader.Given → Type 0
    LapseGains gained = (gained ≡ []) ⊎ ((x : loader.Given) × (gained ≡ x ∷ []) × (x.flight ≡ number) × (x.iri ≡ flight.iri))

    lapse_brings : (gained : List loader.Given) → LapseGains gained → (gained ≡ []) ⊎ ((x : loader.Given) × (gained ≡ x ∷ []) × IsFor (placed store (plain (event.Lapsed number))) number x)
    lapse_brings gained (inl none) = inl none
    lapse_brings gained (inr one) = inr (one.0, one.1, record { f = flight; is = there; number = one.2; iri = one.3 })

    pub lapse_moves : (stage : Stage) → IsWaiting stage → (given gained : List loader.Given) (faults : ℕ) → LapseGains gained
        → Moves session (place limits front given faults stage) (place limits (after_step found (steps.lapse_step (history_of found) number)).pages (given ++ gained) faults stage)
    lapse_moves (Lacking r op envelope iri) waits given gained faults gains =
        as_step found (steps.lapse_step (history_of found) number) (λ pages. Moves session (place limits front given faults (Lacking r op envelope iri)) (place limits pages (given ++ gained) faults (Lacking r op envelope iri)))
        (plain (event.Lapsed number) ∷ []) (ap appended is ∙ lapse_is.1)
        (one_moves session limits front found f (plain_page (event.Lapsed number)) lapse_is.0 (plain_is_page limits store (event.Lapsed number) lapse_is.0) own_end
        (Lacking r op envelope iri) tt given (given ++ gained) gained (lapse_brings gained gains) refl faults faults (omega arith))
    lapse_moves (Reloading r iri) waits given gained faults gains =
        as_step found (steps.lapse_step (history_of found) number) (λ pages. Moves session (place limits front given faults (Reloading r iri)) (place limits pages (given ++ gained) faults (Reloading r iri)))
        (plain (event.Lapsed number) ∷ []) (ap appended is ∙ lapse_is.1)
        (one_moves session limits front found f (plain_page (event.Lapsed number)) lapse_is.0 (plain_is_page limits store (event.Lapsed number) lapse_is.0) own_end
        (Reloading r iri) tt given (given ++ gained) gained (lapse_brings gained gains) refl faults faults (omega arith))
    lapse_moves _ waits given gained faults gains = absurd waits

    lapse_now : after store (plain (event.Lapsed number)) ≡ record (landed store number end.Lapsed flight) { events = store.events + 1; evicted = None }
    lapse_now = ap (λ o. record (with_flight store (landed store number end.Lapsed) o) { events = store.events + 1; evicted = None }) there

    pub lapse_ends : end_of (state (entries_of (after_step found (steps.lapse_step (history_of found) number)).pages)) number ≡ Some end.Lapsed
    lapse_ends =
        as_step found (steps.lapse_step (history_of found) number) (λ pages. end_of (state (entries_of pages)) number ≡ Some end.Lapsed) (plain (event.Lapsed number) ∷ []) (ap appended is ∙ lapse_is.1)
        (ap (λ (s : Store). end_of s number) (after_one session limits front found f (event.Lapsed number) ∙ lapse_now)
        ∙ ap (option_map (λ (g : Flight). g.end)) (flight_ended store.flights number end.Lapsed flight there))

    pub lapse_stands : (s : Session) → IsOpenAt found.pages session s → IsOpenAt (after_step found (steps.lapse_step (history_of found) number)).pages session s
    lapse_stands s open_as =
        as_step found (steps.lapse_step (history_of found) number) (λ pages. IsOpenAt pages session s) (plain (event.Lapsed number) ∷ []) (ap appended is ∙ lapse_is.1)
        (ap (λ (st : Store). at_number st.sessions session) (after_one session limits front found f (event.Lapsed number) ∙ lapse_now) ∙ open_as)
