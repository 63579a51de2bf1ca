-- The turns at which a flight ends that the session leads, and a look at a flight.
use Rattle.std.proofs.Common.{◌≡◌, ◌∙◌, ◌⊎◌, inl, inr, ℕ, ◌+◌, ◌≤◌, ◌<◌, ◌^◌, ◌-◌, ◌++◌, Bool, true, false, not, ◌&&◌, ◌||◌, List, [], ◌∷◌, length, refl, sym, ap, subst, arith, eq-eqb, Option, Some, None, Result, Ok, Err}
use Rattle.std.proofs.lemmas.Bool.Decides.{nat_tests}
use Rattle.std.specs.Cmp.Lexicographic.{nat_list_eq_equiv}
use Rattle.std.specs.Prelude.{IfOk, OnErr, OnOk, if◌then◌else◌, is_some, map, nat_le, nat_lt, ◌==◌}
use Rattle.ld_rec.specs.declared.doc.Doc.{Doc}
use Rattle.ld_edge.specs.Faults.{Rose, last_count}
use Rattle.ld_flight.specs.Passes as passes
use Rattle.ld_flight.specs.Readied.{Readied}
use Rattle.ld_history.specs.Legal.{Entries, state}
use Rattle.ld_history.specs.Rules as rules
use Rattle.ld_history.specs.Steps as steps
use Rattle.ld_history.specs.Steps.{Taken, appended}
use Rattle.ld_history.specs.Store.{Store}
use Rattle.ld_history.specs.Words.{flight_at, is_lead, is_some_and, is_stored_answer, is_under_way, same_iri}
use Rattle.ld_history.specs.declared.answers.PublishAnswer.TheVariants as publish_answer
use Rattle.ld_history.specs.declared.event.Event.TheVariants as event
use Rattle.ld_history.specs.declared.event.Given.{Given}
use Rattle.ld_history.specs.declared.limits.Limits.{Limits}
use Rattle.ld_history.specs.declared.session.End.TheVariants as end
use Rattle.ld_history.specs.declared.session.Flight.{Flight}
use Rattle.ld_book.specs.Pages.{Booked, Pages, after_answer, entries_of, given_of, history_of, page_of}
use Rattle.ld_book.specs.Said.{Says, told_publish}
use Rattle.ld_book.specs.declared.answers.PublishAnswer as published
use Rattle.ld_book.specs.declared.page.Line.{Line}
use Rattle.ld_moves.specs.Moving.{Finds}
use Rattle.ld_moves.specs.Standing.{IsFlightAt}
use Rattle.ld_moves.proofs.Keeping.{led_found, of_stays}
use Rattle.ld_moves.proofs.Landing.{own_end}
use Rattle.ld_turn.specs.Known.{Turning}
use Rattle.ld_visit.specs.Ending.{IsLeading}
use Rattle.ld_visit.specs.Taking.{Lands}
use Rattle.ld_visit.specs.Turns.{Adding, AreOwn, Enters}
use Rattle.ld_visit.specs.Visits.{Visiting}
use Rattle.ld_visit.proofs.Allowing.{taken_where}
use Rattle.ld_visit.proofs.Leaving.{adding_none, adding_pages, turned}
use Rattle.ld_visit.proofs.Owning.{Own, own_if, own_where, taken_some}

both : (a b : Bool) → a ≡ true → b ≡ true → (a && b) ≡ true
both a b p q = rw (p, q) refl

either : (a b : Bool) → (a ≡ true) ⊎ (b ≡ true) → (a || b) ≡ true
either true b h = refl
either false b (inl h) = cc
either false b (inr h) = h

-- a failure may be told where the count rose
rises : (before after : ℕ) → Rose before after → after ≤ last_count → (nat_le after (2 ^ 63 - 1) && (nat_lt before after || ((before == 2 ^ 63 - 1) && (after == 2 ^ 63 - 1)))) ≡ true
rises before after rose le =
    both (nat_le after (2 ^ 63 - 1)) _ (grind (arith, nat_tests)) (either (nat_lt before after) _ (elim rose [
      | inl lt ↦ inl (grind (arith, nat_tests))
      | inr last ↦ inr (both (before == 2 ^ 63 - 1) _ (eq-eqb before (2 ^ 63 - 1) last.0) (eq-eqb after (2 ^ 63 - 1) last.1))
    ]))

module _ (session : ℕ) (limits : Limits) (front : Pages) (found : Booked) (f : Finds session limits front found) (pass : passes.Flight) (lead : IsLeading front session pass) where
  abbrev now : Store
  now = state (entries_of found.pages)

  abbrev led : Flight
  led = record { iri = pass.iri; kind = lead.kind; session = session; end = end.UnderWay }

  led_at : IsFlightAt found.pages pass.number led
  led_at = led_found session limits front found f pass.number led refl lead.is

  pub flying_found : rules.is_flying (state (entries_of found.pages)) pass.number ≡ true
  flying_found = ap (is_some_and (λ (g : Flight). is_under_way g.end)) led_at

  -- ---- lapse
  pub lapse_own : Own session (state (entries_of found.pages)) (steps.lapse_step (history_of found) pass.number)
  lapse_own = own_where session now (rules.may_lapse now pass.number) _ (own_end session limits front found f pass.number led refl led_at, tt)

  pub lapse_taken : is_some (steps.lapse_step (history_of found) pass.number) ≡ true
  lapse_taken = taken_where (rules.may_lapse now pass.number) _ flying_found

  -- ---- fail
  module _ (before after : ℕ) (rose : Rose before after) (le : after ≤ last_count) where
    pub fail_found : rules.may_fail (state (entries_of found.pages)) pass.number before after ≡ true
    fail_found = both (rules.is_flying now pass.number) _ flying_found (rises before after rose le)

    pub fail_taken : is_some (steps.fail_step (history_of found) pass.number before after) ≡ true
    fail_taken = taken_where (rules.may_fail now pass.number before after) _ fail_found

  pub fail_own : (before after : ℕ) → Own session (state (entries_of found.pages)) (steps.fail_step (history_of found) pass.number before after)
  fail_own before after = own_where session now (rules.may_fail now pass.number before after) _ (own_end session limits front found f pass.number led refl led_at, tt)

  -- ---- publish
  pub publish_found : rules.on_flight (state (entries_of found.pages)) pass.number (λ (g : Flight). same_iri g.iri pass.iri) ≡ true
  publish_found = ap (is_some_and (λ (g : Flight). is_under_way g.end && same_iri g.iri pass.iri)) led_at ∙ nat_list_eq_equiv.refl pass.iri

  module _ (given : Given) where
    publishing_own : (b : Bool)
        → AreOwn session now (if b then steps.taken publish_answer.Same (record { event = event.Same pass.number; given = Some given } ∷ []) else steps.taken (publish_answer.Published (now.version + 1)) (record { event = event.Published pass.number (now.version + 1); given = Some given } ∷ [])).entries
    publishing_own true = (own_end session limits front found f pass.number led refl led_at, tt)
    publishing_own false = (own_end session limits front found f pass.number led refl led_at, tt)

    own_publish : (o : Option Flight) → Own session now (steps.publish_found now pass.number given o)
    own_publish None = tt
    own_publish (Some g) = own_where session now (is_under_way g.end && nat_le given.length 1048577) _ (publishing_own (not (is_lead g.kind) && is_stored_answer now g.iri given))

    pub publish_own : Own session (state (entries_of found.pages)) (steps.publish_step (history_of found) pass.number given)
    publish_own = own_publish (flight_at now.flights pass.number)

-- ---- the pages of an answer
entries_paged : (doc : Doc) (es : Entries) → entries_of (map (page_of doc) es) ≡ es
entries_paged doc [] = refl
entries_paged doc (e ∷ es) = ap (λ (l : Entries). e ∷ l) (entries_paged doc es)

pub adding_answer : {E : Type 0} (visit : Visiting) (turn : Turning Booked Line) (e : Enters visit turn) (session : ℕ) (same : session ≡ visit.session) (ready : Readied) (had : Booked) → had ≡ turn.value
    → (new : Booked) (r : Result published.PublishAnswer E) → OnOk r (new ≡ after_answer had (steps.publish_step (history_of had) ready.pass.number (given_of ready)) ready.doc) → OnErr r (new ≡ had)
    → Own session (state (entries_of turn.value.pages)) (steps.publish_step (history_of turn.value) ready.pass.number (given_of ready)) → Adding session (turned turn new)
adding_answer visit turn e session same ready had at new (Ok x) ok err own =
    let step = steps.publish_step (history_of turn.value) ready.pass.number (given_of ready) in
    let is : new ≡ after_answer turn.value step ready.doc = ok ∙ ap (λ (b : Booked). after_answer b (steps.publish_step (history_of b) ready.pass.number (given_of ready)) ready.doc) at in
    adding_pages visit turn e session same (map (page_of ready.doc) (appended step)) new (ap (λ (b : Booked). b.limits) is) (sym (ap (λ (b : Booked). b.pages) is))
    (subst (AreOwn session (state (entries_of turn.value.pages))) (sym (entries_paged ready.doc (appended step))) own)
adding_answer visit turn e session same ready had at new (Err x) ok err own = adding_none visit turn e session same new (err ∙ at)

pub lands_so : {E : Type 0} (ready : Readied) (had b : Booked) → had ≡ b → (new : Booked) (r : Result published.PublishAnswer E)
    → IfOk r (Says told_publish (steps.publish_step (history_of had) ready.pass.number (given_of ready)))
    → OnOk r (new ≡ after_answer had (steps.publish_step (history_of had) ready.pass.number (given_of ready)) ready.doc) → OnErr r (new ≡ had) → (new.limits ≡ b.limits) × Lands ready r b new.pages
lands_so ready had b at new (Ok answer) says ok err =
    let is : new ≡ after_answer b (steps.publish_step (history_of b) ready.pass.number (given_of ready)) ready.doc =
    ok ∙ ap (λ (x : Booked). after_answer x (steps.publish_step (history_of x) ready.pass.number (given_of ready)) ready.doc) at in (
      ap (λ (x : Booked). x.limits) is,
      (subst (λ (x : Booked). Says told_publish (steps.publish_step (history_of x) ready.pass.number (given_of ready)) answer) at says, ap (λ (x : Booked). x.pages) is),
    )
lands_so ready had b at new (Err x) says ok err = (ap (λ (y : Booked). y.limits) (err ∙ at), ap (λ (y : Booked). y.pages) (err ∙ at))

-- ---- a flight that was led is one still
pub led_before : (session : ℕ) (limits : Limits) (front : Pages) (found : Booked) → Finds session limits front found → (flight : ℕ) → is_some (flight_at (state (entries_of front)).flights flight) ≡ true
    → is_some (flight_at (state (entries_of found.pages)).flights flight) ≡ true
led_before session limits front found f flight is = go (flight_at (state (entries_of front)).flights flight) refl is
  where
    go : (o : Option Flight) → flight_at (state (entries_of front)).flights flight ≡ o → is_some o ≡ true → is_some (flight_at (state (entries_of found.pages)).flights flight) ≡ true
    go (Some g) at h = let there = of_stays front found.pages f.grows flight g.iri (record { flight = g; is = at; iri_is = refl }) in ap is_some there.is
    go None at h = cc
