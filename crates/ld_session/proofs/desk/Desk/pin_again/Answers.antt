use Rattle.std.proofs.Common.{subst}
use Rattle.ld_fits.specs.Play.{Lacking, replied}
use Rattle.ld_history.specs.declared.event.How.TheVariants as how
use Rattle.ld_visit.specs.Taking.{Pins}
use Rattle.ld_visit.specs.Visits.{Took}
use Rattle.ld_session.specs.Adding.{moved_more}
use Rattle.ld_session.proofs.Ending.{gives_up}
use Rattle.ld_session.proofs.Requesting.{again_over}
use Rattle.ld_session.proofs.Turning.{answered_idle, answered_moved, pinned_attempting, refused_moved}
use Rattle.ld_session.proofs.desk.Desk.pin_again.Goals as goal

pub answer-visit-requires-clause-may : goal.answer-visit-requires-clause-may
answer-visit-requires-clause-may g c =
    let v = c.args.visit in
    let t = subst (λ x. Took v c.pin-visit.result.0 (Pins v.session x)) c.in-Err.is c.pin-visit.ensures in
    gives_up v c.pin-visit.result.0 _ t t.took.1 c.requires.may

pub returns-in-Ok : goal.returns-in-Ok
returns-in-Ok g c loader op envelope iri =
    let v = c.args.visit in
    let t = subst (λ x. Took v c.pin-visit.result.0 (Pins v.session x)) c.in-Ok.is c.pin-visit.ensures in
    (pinned_attempting v c.pin-visit.result.0 c.in-Ok.next t, λ r. again_over v c.pin-visit.result.0 c.in-Ok.next t loader op envelope iri r)

pub returns-in-Err : goal.returns-in-Err
returns-in-Err g c loader op envelope iri =
    let v = c.args.visit in
    let later = c.pin-visit.result.0 in
    let t = subst (λ x. Took v later (Pins v.session x)) c.in-Err.is c.pin-visit.ensures in (
      answered_idle later c.answer-visit.result how.NoMemory c.answer-visit.ensures,
      λ r. moved_more v later c.answer-visit.result loader loader loader (Lacking r op envelope iri) (Lacking r op envelope iri) _ (refused_moved v later _ t (Lacking r op envelope iri) loader)
          (answered_moved later c.answer-visit.result how.NoMemory c.answer-visit.ensures (Lacking r op envelope iri) loader),
    )
