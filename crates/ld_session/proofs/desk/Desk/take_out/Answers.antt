use Rattle.std.proofs.Common.{sym, subst, inl}
use Rattle.ld_book.specs.Pages.{history_of}
use Rattle.ld_book.specs.Said.{told_evict}
use Rattle.ld_fits.specs.Play.{Evicting}
use Rattle.ld_history.specs.Steps.{evict_step}
use Rattle.ld_history.specs.declared.event.How.TheVariants as how
use Rattle.ld_history.specs.declared.session.Last.TheVariants as last
use Rattle.ld_tree.specs.declared.no_memory.NoMemory.{NoMemory}
use Rattle.ld_visit.specs.Taking.{TakesOr}
use Rattle.ld_visit.specs.Visits.{Took}
use Rattle.ld_session.specs.Requesting.{Ends}
use Rattle.ld_session.specs.Adding.{moved_more}
use Rattle.ld_session.proofs.Moving.{still_stands, took_none}
use Rattle.ld_session.proofs.Renewing.{evict_ends}
use Rattle.ld_session.proofs.Turning.{answered_idle, answered_moved}
use Rattle.ld_session.proofs.desk.Desk.take_out.Goals as goal

pub answer-visit-requires-clause-may : goal.answer-visit-requires-clause-may
answer-visit-requires-clause-may g c =
    let v = c.args.visit in
    let t = subst (λ x. Took v c.evict-visit.result.0 (TakesOr told_evict (λ found. evict_step (history_of found) v.session c.args.iri.now) x)) c.in-Err.is c.evict-visit.ensures in
    inl (still_stands v c.evict-visit.result.0 _ t t.took last.Pinned c.requires.pinned)

pub returns-in-Ok : goal.returns-in-Ok
returns-in-Ok g c loader =
    let v = c.args.visit in
    let later = c.evict-visit.result.0 in
    let t = subst (λ x. Took v later (TakesOr told_evict (λ found. evict_step (history_of found) v.session c.args.iri.now) x)) c.in-Ok.is c.evict-visit.ensures in
    subst (λ o. Ends v later loader loader (λ r. Evicting r c.args.iri.now) o) (sym c.outcome_of.ensures) (evict_ends NoMemory v later c.args.iri.now c.in-Ok.answer t loader)

pub returns-in-Err : goal.returns-in-Err
returns-in-Err g c loader =
    let v = c.args.visit in
    let later = c.evict-visit.result.0 in
    let t = subst (λ x. Took v later (TakesOr told_evict (λ found. evict_step (history_of found) v.session c.args.iri.now) x)) c.in-Err.is c.evict-visit.ensures in (
      answered_idle later c.answer-visit.result how.NoMemory c.answer-visit.ensures,
      λ r. moved_more v later c.answer-visit.result loader loader loader (Evicting r c.args.iri.now) (Evicting r c.args.iri.now) _ (took_none v later _ t t.took (Evicting r c.args.iri.now) loader)
          (answered_moved later c.answer-visit.result how.NoMemory c.answer-visit.ensures (Evicting r c.args.iri.now) loader),
    )
