-- How a request ends that waited for a flight, or for which memory was wanting.
use Rattle.std.proofs.Common.{◌≡◌, ◌∙◌, ◌⊎◌, inl, inr, ℕ, true, false, refl, sym, ap, subst, if◌then◌else◌}
use Rattle.std.specs.Cmp.Lexicographic.{nat_list_eq_equiv}
use Rattle.std.specs.Prelude.{List, Option, Some, None}
use Rattle.std.specs.Option.{option_map}
use mathlib.Core.List.{IsPrefix}
use Rattle.ld_answer.specs.Bodies.{load_fault_body}
use Rattle.ld_answer.specs.declared.envelope.Envelope.{Envelope}
use Rattle.ld_answer.specs.declared.op.Op.{Op}
use Rattle.ld_fits.specs.Play.{Lacking, Reloading, Request, Stage, fault_as, fault_of, outcome_lacking, replied, step}
use Rattle.ld_flight.specs.Loads.{Loading}
use Rattle.ld_head.specs.declared.outcome.Outcome.{Outcome}
use Rattle.ld_head.specs.declared.outcome.Outcome.TheVariants as outcome
use Rattle.ld_history.specs.Legal.{state}
use Rattle.ld_history.specs.Rules.{end_of}
use Rattle.ld_history.specs.Steps.{answer_step}
use Rattle.ld_history.specs.Words.{flight_at, is_under_way, same_iri}
use Rattle.ld_history.specs.declared.event.How.TheVariants as how
use Rattle.ld_history.specs.declared.session.End.{End}
use Rattle.ld_history.specs.declared.session.End.TheVariants as end
use Rattle.ld_history.specs.declared.session.Flight.{Flight}
use Rattle.ld_history.specs.declared.session.Last.TheVariants as last
use Rattle.ld_book.specs.Pages.{Booked, Pages, entries_of, history_of}
use Rattle.ld_moves.specs.Moving.{Finds}
use Rattle.ld_moves.specs.Standing.{IsOf, Stands}
use Rattle.ld_moves.proofs.Keeping.{ended_found, of_stays}
use Rattle.ld_visit.specs.Ending.{Awaits, Ended, HasCome, HasWaited, IsLoading, MayEnd}
use Rattle.ld_visit.specs.Taking.{Takes}
use Rattle.ld_visit.specs.Visits.{Took, Visiting}
use Rattle.ld_session.specs.Requesting.{Brought, Ends, EndsAt, MayPinAgain}
use Rattle.ld_session.specs.Serving.{Moved}
use Rattle.ld_session.specs.Adding.{moved_more}
use Rattle.ld_session.proofs.Moving.{still_stands}
use Rattle.ld_session.proofs.Turning.{answered_idle, answered_moved}

-- ---- one after another
module _ (a b c : Visiting) (x y z : Loading) where
  pub ends_after : (from to : Request → Stage) → ((r : Request) → Moved a b x y (from r) (to r)) → (o : Outcome) → Ends b c y z to o → Ends a c x z from o
  ends_after from to m o e = (e.0, λ r. moved_more a b c x y z (from r) (to r) (replied r (Some o)) (m r) (e.1 r))

  pub ends_at_after : (version : ℕ) (from to : Request → Stage) → ((r : Request) → Moved a b x y (from r) (to r)) → (o : Outcome) → EndsAt b c y z version to o → EndsAt a c x z version from o
  ends_at_after version from to m o e = (
    e.0,
    λ r. let at : Request = record r { version = version } in moved_more a b c x y z (from at) (to at) (replied at (Some o)) (m at) (e.1 r),
  )

  pub brought_after : (op : Op) (envelope : Envelope) (iri : List ℕ) (from to : Request → Stage) → ((r : Request) → Moved a b x y (from r) (to r))
      → (o : Option Outcome) → Brought b c y z op envelope iri to o → Brought a c x z op envelope iri from o
  brought_after op envelope iri from to m (Some o) e = ends_after from to m o e
  brought_after op envelope iri from to m None e = (e.0, λ r. moved_more a b c x y z (from r) (to r) (Lacking r op envelope iri) (m r) (e.1 r))

-- ---- a load that failed
some_of : {A : Type 0} (a b : A) → Some a ≡ Some b → a ≡ b
some_of a b e = cc

ended_as : (o : Option Flight) (f : Flight) (e : End) → o ≡ Some f → option_map (λ (g : Flight). g.end) o ≡ Some e → f.end ≡ e
ended_as o f e at is = some_of f.end e (sym (ap (option_map (λ (g : Flight). g.end)) at) ∙ is)

fault_by : (iri : List ℕ) (flight before after : ℕ) (f : Flight) → f.iri ≡ iri → f.end ≡ end.Failed before after → fault_of iri flight (Some f) ≡ Some (outcome.LoadFault (load_fault_body iri flight before after))
fault_by iri flight before after f same ended =
    let here : same_iri f.iri iri ≡ true = ap (λ (i : List ℕ). same_iri i iri) same ∙ nat_list_eq_equiv.refl iri in
    ap (λ b. if b then fault_as iri flight f.end else None) here ∙ ap (fault_as iri flight) ended

fault_found : (session : ℕ) (limits : _) (front : Pages) (found : Booked) → Finds session limits front found → (iri : List ℕ) (flight before after : ℕ) → IsOf front flight iri → Ended front flight (end.Failed before after)
    → fault_of iri flight (flight_at (state (entries_of found.pages)).flights flight) ≡ Some (outcome.LoadFault (load_fault_body iri flight before after))
fault_found session limits front found f iri flight before after of ended =
    let there = of_stays front found.pages f.grows flight iri of in
    let over = ended_found session limits front found f flight (end.Failed before after) refl ended in
    ap (fault_of iri flight) there.is ∙ fault_by iri flight before after there.flight there.iri_is (ended_as (flight_at (state (entries_of found.pages)).flights flight) there.flight (end.Failed before after) there.is over)

module _ (visit later : Visiting) (iri : List ℕ) (flight before after : ℕ) (of : IsOf visit.pages flight iri) (ended : Ended visit.pages flight (end.Failed before after))
    (t : Took visit later (Takes (λ found. answer_step (history_of found) visit.session (how.LoadFault flight)))) where
  fault_told : (r : Request) (from : Stage) (loader : Loading)
      → Moved visit later loader loader from (replied r (fault_of iri flight (flight_at (state (entries_of t.found.pages)).flights flight)))
      → Moved visit later loader loader from (replied r (Some (outcome.LoadFault (load_fault_body iri flight before after))))
  fault_told r from loader m = subst (λ o. Moved visit later loader loader from (replied r o)) (fault_found visit.session visit.limits visit.pages t.found t.finds iri flight before after of ended) m

  pub fault_lacking : (loader : Loading) (op : Op) (envelope : Envelope) → Ends visit later loader loader (λ r. Lacking r op envelope iri) (outcome.LoadFault (load_fault_body iri flight before after))
  fault_lacking loader op envelope = (
    answered_idle visit later (how.LoadFault flight) t,
    λ r. fault_told r (Lacking r op envelope iri) loader (answered_moved visit later (how.LoadFault flight) t (Lacking r op envelope iri) loader),
  )

  pub fault_reloading : (loader : Loading) → Ends visit later loader loader (λ r. Reloading r iri) (outcome.LoadFault (load_fault_body iri flight before after))
  fault_reloading loader = (
    answered_idle visit later (how.LoadFault flight) t,
    λ r. fault_told r (Reloading r iri) loader (answered_moved visit later (how.LoadFault flight) t (Reloading r iri) loader),
  )

-- ---- who waited for a flight that ended may be answered that memory was wanting
pub has_waited : (visit : Visiting) (flight : ℕ) (e : End) → is_under_way e ≡ false → Awaits visit.pages visit.session flight → Ended visit.pages flight e → MayEnd visit.pages visit.session how.NoMemory
has_waited visit flight e over awaits ended = inr (inr (record { flight = flight; how = e; awaits = awaits; ended = ended; over = over }))

-- and so may one whose context came, after a turn at which nothing was done
pub gives_up : (visit later : Visiting) (step : _) (t : Took visit later step) → later.pages ≡ t.found.pages → MayPinAgain visit → MayEnd later.pages later.session how.NoMemory
gives_up visit later step t is (inl found) = inr (inl (still_stands visit later step t is last.Found found))
gives_up visit later step t is (inr came) =
    let ended : Ended later.pages came.flight (end.Published came.version) =
    subst (λ (p : Pages). Ended p came.flight (end.Published came.version)) (sym is) (ended_found visit.session visit.limits visit.pages t.found t.finds came.flight (end.Published came.version) refl came.came) in
    elim came.loads [
      | inl led ↦ has_waited later came.flight (end.Published came.version) refl (inl (inl (still_stands visit later step t is (last.Led came.flight) led))) ended
      | inr joined ↦ has_waited later came.flight (end.Published came.version) refl (inl (inr (still_stands visit later step t is (last.Joined came.flight) joined))) ended
    ]
