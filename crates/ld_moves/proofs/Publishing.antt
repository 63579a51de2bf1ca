-- An answer of a flight.
use Rattle.std.proofs.Common.{◌≡◌, ◌∙◌, ◌⊎◌, inl, inr, ℕ, ◌+◌, Bool, true, false, not, ◌&&◌, ◌||◌, List, [], ◌∷◌, ◌++◌, refl, sym, ap, subst, arith, eq-eqb}
use Rattle.std.specs.Prelude.{Option, Some, None, map, nat_le, if◌then◌else◌}
use Rattle.std.specs.Option.{option_map}
use Rattle.std.proofs.lemmas.Bool.{and_from}
use Rattle.ld_flight.specs.Readied.{Readied, Tells}
use Rattle.ld_flight.specs.declared.given.Given as loader
use Rattle.ld_history.specs.After.{answered_by, landed, with_flight}
use Rattle.ld_history.specs.Legal.{state}
use Rattle.ld_history.specs.Rules as rules
use Rattle.ld_history.specs.Rules.{end_of}
use Rattle.ld_history.specs.Steps as steps
use Rattle.ld_history.specs.Steps.{Taken, appended}
use Rattle.ld_history.specs.Store.{Store}
use Rattle.ld_history.specs.Words.{at_number, is_lead, is_some_and, is_stored_answer, is_under_way}
use Rattle.ld_history.specs.declared.answers.PublishAnswer.{PublishAnswer}
use Rattle.ld_history.specs.declared.answers.PublishAnswer.TheVariants as publish_answer
use Rattle.ld_history.specs.declared.event.Entry.{Entry}
use Rattle.ld_history.specs.declared.event.Event.TheVariants as event
use Rattle.ld_history.specs.declared.event.Given.{Given}
use Rattle.ld_history.specs.declared.limits.Limits.{Limits}
use Rattle.ld_history.specs.declared.session.End.TheVariants as end
use Rattle.ld_history.specs.declared.session.Flight.{Flight}
use Rattle.ld_history.specs.declared.session.Session.{Session}
use Rattle.ld_history.proofs.LawFlights.{flight_ended}
use Rattle.ld_fits.specs.Play.{Lacking, Reloading, Stage}
use Rattle.ld_book.specs.Pages.{Booked, Pages, after_answer, entries_of, given_of, history_of, page_of}
use Rattle.ld_moves.specs.Moving.{Finds, Moves, place}
use Rattle.ld_moves.specs.Standing.{IsFlightAt, IsGiven, IsOpenAt, IsWaiting, end_by}
use Rattle.ld_moves.proofs.Landing.{own_end}
use Rattle.ld_moves.proofs.Taking.{one_moves, state_with}

differs : (lead stored : Bool) → (not lead && stored) ≡ false → (lead || not stored) ≡ true
differs true stored h = refl
differs false true h = cc
differs false false h = refl

split : (a b : Bool) → (a && b) ≡ true → (a ≡ true) × (b ≡ true)
split true b h = (refl, h)
split false b h = cc

module _ (session : ℕ) (limits : Limits) (front : Pages) (found : Booked) (f : Finds session limits front found) (number : ℕ) (flight : Flight) (led : flight.session ≡ session) (there : IsFlightAt found.pages number flight)
    (ready : Readied) (tells : Tells ready.doc ready.length ready.mark) (t : Taken PublishAnswer) (is : steps.publish_step (history_of found) number (given_of ready) ≡ Some t) where
  abbrev store : Store
  store = state (entries_of found.pages)

  abbrev published_entry : Entry (List ℕ) Given
  published_entry = record { event = event.Published number (store.version + 1); given = Some (given_of ready) }

  abbrev same_entry : Entry (List ℕ) Given
  same_entry = record { event = event.Same number; given = Some (given_of ready) }

  abbrev Parts : Type 0
  Parts = ((t ≡ steps.taken (publish_answer.Published (store.version + 1)) (published_entry ∷ [])) × (rules.may_publish store number (store.version + 1) (given_of ready) ≡ true))
      ⊎ ((t ≡ steps.taken publish_answer.Same (same_entry ∷ [])) × (rules.may_be_same store number (given_of ready) ≡ true))

  by_same : is_under_way flight.end ≡ true → nat_le ready.length 1048577 ≡ true → (b : Bool) → (not (is_lead flight.kind) && is_stored_answer store flight.iri (given_of ready)) ≡ b
      → (if b then steps.taken publish_answer.Same (same_entry ∷ []) else steps.taken (publish_answer.Published (store.version + 1)) (published_entry ∷ [])) ≡ t → Parts
  by_same flies short true same e = inr (sym e, ap (is_some_and (λ (g : Flight). is_under_way g.end && (not (is_lead g.kind) && is_stored_answer store g.iri (given_of ready)))) there ∙ and_from _ _ flies same)
  by_same flies short false other e =
      inl (sym e, ap (is_some_and _) there ∙ and_from _ _ flies (and_from _ _ (and_from _ _ (eq-eqb (store.version + 1) (store.version + 1) refl) short) (differs (is_lead flight.kind) (is_stored_answer store flight.iri (given_of ready)) other)))

  by_flying : (b : Bool) → (is_under_way flight.end && nat_le ready.length 1048577) ≡ b → steps.where_ b (steps.publishing store number (given_of ready) flight) ≡ Some t → Parts
  by_flying true h e = let p = split _ _ h in by_same p.0 p.1 (not (is_lead flight.kind) && is_stored_answer store flight.iri (given_of ready)) refl cc
  by_flying false h e = cc

  parts : Parts
  parts = by_flying (is_under_way flight.end && nat_le ready.length 1048577) refl (sym (ap (steps.publish_found store number (given_of ready)) there) ∙ is)

  as_answer : (P : Pages → PublishAnswer → Type 0) → (t ≡ steps.taken (publish_answer.Published (store.version + 1)) (published_entry ∷ []) → rules.may_publish store number (store.version + 1) (given_of ready) ≡ true
      → P (found.pages ++ page_of ready.doc published_entry ∷ []) (publish_answer.Published (store.version + 1)))
      → (t ≡ steps.taken publish_answer.Same (same_entry ∷ []) → rules.may_be_same store number (given_of ready) ≡ true → P (found.pages ++ page_of ready.doc same_entry ∷ []) publish_answer.Same)
      → P (after_answer found (steps.publish_step (history_of found) number (given_of ready)) ready.doc).pages t.answer
  as_answer P new same = go parts
    where
      go : Parts → P (after_answer found (steps.publish_step (history_of found) number (given_of ready)) ready.doc).pages t.answer
      go (inl h) = subst (λ (o : Option (Taken PublishAnswer)). P (found.pages ++ map (page_of ready.doc) (appended o)) t.answer) (sym is)
          (subst (λ (x : Taken PublishAnswer). P (found.pages ++ map (page_of ready.doc) x.entries) x.answer) (sym h.0) (new h.0 h.1))
      go (inr h) = subst (λ (o : Option (Taken PublishAnswer)). P (found.pages ++ map (page_of ready.doc) (appended o)) t.answer) (sym is)
          (subst (λ (x : Taken PublishAnswer). P (found.pages ++ map (page_of ready.doc) x.entries) x.answer) (sym h.0) (same h.0 h.1))

  module _ (given : List loader.Given) (x : loader.Given) (g : IsGiven number flight.iri ready x) (faults : ℕ) where
    moves_from : (stage : Stage) → IsWaiting stage
        → (rules.may_publish store number (store.version + 1) (given_of ready) ≡ true → Moves session (place limits front given faults stage) (place limits (found.pages ++ page_of ready.doc published_entry ∷ []) (given ++ x ∷ []) faults stage))
        × (rules.may_be_same store number (given_of ready) ≡ true → Moves session (place limits front given faults stage) (place limits (found.pages ++ page_of ready.doc same_entry ∷ []) (given ++ x ∷ []) faults stage))
    moves_from (Lacking r op envelope iri) waits = (
      (λ ok. one_moves session limits front found f (page_of ready.doc published_entry) ok (record { url_is = refl; tells = tells }) (own_end session limits front found f number flight led there) (Lacking r op envelope iri) tt given (given ++ x ∷ []) (x ∷ [])
          (x, refl, record { f = flight; is = there; number = g.number_is; iri = g.iri_is }, record { answer = given_of ready; is = refl; url = g.url_is; length = g.length_is; mark = g.mark_is }) refl faults faults (omega arith)),
      (λ ok. one_moves session limits front found f (page_of ready.doc same_entry) ok refl (own_end session limits front found f number flight led there) (Lacking r op envelope iri) tt given (given ++ x ∷ []) (x ∷ [])
          (x, refl, record { f = flight; is = there; number = g.number_is; iri = g.iri_is }, record { answer = given_of ready; is = refl; url = g.url_is; length = g.length_is; mark = g.mark_is }) refl faults faults (omega arith)),
    )
    moves_from (Reloading r iri) waits = (
      (λ ok. one_moves session limits front found f (page_of ready.doc published_entry) ok (record { url_is = refl; tells = tells }) (own_end session limits front found f number flight led there) (Reloading r iri) tt given (given ++ x ∷ []) (x ∷ [])
          (x, refl, record { f = flight; is = there; number = g.number_is; iri = g.iri_is }, record { answer = given_of ready; is = refl; url = g.url_is; length = g.length_is; mark = g.mark_is }) refl faults faults (omega arith)),
      (λ ok. one_moves session limits front found f (page_of ready.doc same_entry) ok refl (own_end session limits front found f number flight led there) (Reloading r iri) tt given (given ++ x ∷ []) (x ∷ [])
          (x, refl, record { f = flight; is = there; number = g.number_is; iri = g.iri_is }, record { answer = given_of ready; is = refl; url = g.url_is; length = g.length_is; mark = g.mark_is }) refl faults faults (omega arith)),
    )
    moves_from _ waits = absurd waits

    pub publish_moves : (stage : Stage) → IsWaiting stage
        → Moves session (place limits front given faults stage) (place limits (after_answer found (steps.publish_step (history_of found) number (given_of ready)) ready.doc).pages (given ++ x ∷ []) faults stage)
    publish_moves stage waits = as_answer (λ pages answer. Moves session (place limits front given faults stage) (place limits pages (given ++ x ∷ []) faults stage)) (λ e ok. (moves_from stage waits).0 ok) (λ e ok. (moves_from stage waits).1 ok)

  published_now : state (entries_of (found.pages ++ page_of ready.doc published_entry ∷ [])) ≡ record (answered_by store number (store.version + 1) (given_of ready) flight) { events = store.events + 1; evicted = None }
  published_now = state_with session limits front found f (page_of ready.doc published_entry ∷ []) ∙ ap (λ o. record (with_flight store (answered_by store number (store.version + 1) (given_of ready)) o) { events = store.events + 1; evicted = None }) there

  same_now : state (entries_of (found.pages ++ page_of ready.doc same_entry ∷ [])) ≡ record (landed store number end.Same flight) { events = store.events + 1; evicted = None }
  same_now = state_with session limits front found f (page_of ready.doc same_entry ∷ []) ∙ ap (λ o. record (with_flight store (landed store number end.Same) o) { events = store.events + 1; evicted = None }) there

  pub publish_ends : end_of (state (entries_of (after_answer found (steps.publish_step (history_of found) number (given_of ready)) ready.doc).pages)) number ≡ Some (end_by t.answer)
  publish_ends = as_answer (λ pages answer. end_of (state (entries_of pages)) number ≡ Some (end_by answer))
      (λ e ok. ap (λ (s : Store). end_of s number) published_now ∙ ap (option_map (λ (g : Flight). g.end)) (flight_ended store.flights number (end.Published (store.version + 1)) flight there))
      (λ e ok. ap (λ (s : Store). end_of s number) same_now ∙ ap (option_map (λ (g : Flight). g.end)) (flight_ended store.flights number end.Same flight there))

  pub publish_stands : (s : Session) → IsOpenAt found.pages session s → IsOpenAt (after_answer found (steps.publish_step (history_of found) number (given_of ready)) ready.doc).pages session s
  publish_stands s open_as = as_answer (λ pages answer. IsOpenAt pages session s)
      (λ e ok. ap (λ (st : Store). at_number st.sessions session) published_now ∙ open_as)
      (λ e ok. ap (λ (st : Store). at_number st.sessions session) same_now ∙ open_as)
