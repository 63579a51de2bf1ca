use Rattle.std.proofs.Common.{◌≡◌, ℕ, true, sym, subst}
use Rattle.ld_history.specs.Legal.{state}
use Rattle.ld_history.specs.Rules.{on_flight}
use Rattle.ld_history.specs.Steps.{publish_step}
use Rattle.ld_history.specs.Words.{same_iri}
use Rattle.ld_book.specs.Pages.{Booked, entries_of, given_of, history_of, state_of}
use Rattle.ld_visit.specs.Taking.{Lands}
use Rattle.ld_visit.proofs.Landing.{adding_answer, lands_so, publish_found, publish_own}
use Rattle.ld_visit.proofs.Leaving.{took_by}
use Rattle.ld_visit.proofs.Owning.{Own}
use Rattle.ld_visit.proofs.flights.publish.Goals as goal

pub publish-published-requires : goal.publish-published-requires
publish-published-requires g c =
    let v = c.args.visit in
    let p = c.args.ready.pass in
    let e = c.enter-turn.ensures in
    let b = c.enter-turn.result.0.value in
    subst (λ (x : Booked). on_flight (state_of x) p.number (λ f. same_iri f.iri p.iri) ≡ true) (sym c.value.ensures.value) (publish_found v.session v.limits v.pages b e.enters.finds p c.requires.may)

pub leave-requires-clause-adding : goal.leave-requires-clause-adding
leave-requires-clause-adding g c =
    let v = c.args.visit in
    let r = c.args.ready in
    let e = c.enter-turn.ensures in
    let b = c.enter-turn.result.0.value in
    let n = c.enter-turn.result.1 in
    let p = c.publish-published.ensures in
    adding_answer v c.enter-turn.result.0 e.enters n e.session r c.value.result.now c.value.ensures.value c.publish-published.new.self c.publish-published.result p.appended p.unchanged
    (subst (λ (m : ℕ). Own m (state (entries_of b.pages)) (publish_step (history_of b) r.pass.number (given_of r))) (sym e.session) (publish_own v.session v.limits v.pages b e.enters.finds r.pass c.requires.may (given_of r)))

pub returns-clause-took : goal.returns-clause-took
returns-clause-took g c =
    let v = c.args.visit in
    let r = c.args.ready in
    let e = c.enter-turn.ensures in
    let p = c.publish-published.ensures in
    let h = lands_so r c.value.result.now c.enter-turn.result.0.value c.value.ensures.value c.publish-published.new.self c.publish-published.result p.answered p.appended p.unchanged in
    took_by v c.enter-turn.result.0 e.enters c.enter-turn.result.1 e.session c.publish-published.new.self c.leave.result c.leave.ensures h.0 (Lands r c.publish-published.result) h.1
