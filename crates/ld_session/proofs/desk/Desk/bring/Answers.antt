use Rattle.std.proofs.Common.{subst, inl, Err}
use Rattle.ld_book.specs.Pages.{history_of}
use Rattle.ld_book.specs.Said.{told_lack}
use Rattle.ld_fits.specs.Play.{Pinned}
use Rattle.ld_history.specs.Steps.{lack_step}
use Rattle.ld_history.specs.declared.event.How.TheVariants as how
use Rattle.ld_history.specs.declared.session.Last.TheVariants as last
use Rattle.ld_rec.specs.declared.stop.Stop.TheVariants as stop
use Rattle.ld_tree.specs.declared.no_memory.NoMemory.{NoMemory}
use Rattle.ld_visit.specs.Taking.{TakesOr}
use Rattle.ld_visit.specs.Visits.{Took}
use Rattle.ld_session.specs.Adding.{moved_more}
use Rattle.ld_session.specs.Requesting.{lacked_to}
use Rattle.ld_session.proofs.Ending.{brought_after}
use Rattle.ld_session.proofs.Lacking.{lack_moved, lack_stands}
use Rattle.ld_session.proofs.Moving.{pinned_stands, still_stands, took_none}
use Rattle.ld_session.proofs.Turning.{answered_idle, answered_moved}
use Rattle.ld_session.proofs.desk.Desk.bring.Goals as goal

pub returns-in-Err : goal.returns-in-Err
returns-in-Err g c op envelope = (
  answered_idle c.args.visit c.answer-visit.result how.NoMemory c.answer-visit.ensures,
  λ r. answered_moved c.args.visit c.answer-visit.result how.NoMemory c.answer-visit.ensures (Pinned r op envelope (Err (stop.Missing c.args.iri.now))) (g.L.Loader.loading c.args.loader.now),
)

pub follow-requires-clause-lacked : goal.follow-requires-clause-lacked
follow-requires-clause-lacked g c =
    let v = c.args.visit in
    let iri = c.args.iri.now in
    let t = subst (λ x. Took v c.lack-visit.result.0 (TakesOr (told_lack iri) (λ found. lack_step (history_of found) v.session iri) x)) c.in-Ok-lacked.is c.lack-visit.ensures in
    lack_stands NoMemory v c.lack-visit.result.0 iri c.in-Ok-lacked.lacked t

pub answer-visit-requires-in-Err-lacked-clause-may : goal.answer-visit-requires-in-Err-lacked-clause-may
answer-visit-requires-in-Err-lacked-clause-may g c =
    let v = c.args.visit in
    let iri = c.args.iri.now in
    let t = subst (λ x. Took v c.lack-visit.result.0 (TakesOr (told_lack iri) (λ found. lack_step (history_of found) v.session iri) x)) c.in-Err-lacked.is c.lack-visit.ensures in
    inl (still_stands v c.lack-visit.result.0 _ t t.took last.Pinned (pinned_stands v.pages v.session c.requires.may.request c.requires.may.version c.requires.may.pinned))

pub returns-in-Ok-lacked : goal.returns-in-Ok-lacked
returns-in-Ok-lacked g c op envelope =
    let v = c.args.visit in
    let later = c.lack-visit.result.0 in
    let iri = c.args.iri.now in
    let x = c.in-Ok-lacked.lacked in
    let t = subst (λ y. Took v later (TakesOr (told_lack iri) (λ found. lack_step (history_of found) v.session iri) y)) c.in-Ok-lacked.is c.lack-visit.ensures in
    let before = g.L.Loader.loading c.args.loader.now in
    let after = g.L.Loader.loading c.follow.new.loader in
    brought_after v later c.follow.result.0 before before after op envelope iri (λ r. Pinned r op envelope (Err (stop.Missing iri))) (λ r. lacked_to r op envelope iri x)
    (λ r. lack_moved NoMemory v later iri x t before op envelope r) c.follow.result.1 (c.follow.ensures op envelope)

pub returns-in-Err-lacked : goal.returns-in-Err-lacked
returns-in-Err-lacked g c op envelope =
    let v = c.args.visit in
    let later = c.lack-visit.result.0 in
    let last_one = c.answer-visit-in-Err-lacked.result in
    let iri = c.args.iri.now in
    let loader = g.L.Loader.loading c.args.loader.now in
    let t = subst (λ x. Took v later (TakesOr (told_lack iri) (λ found. lack_step (history_of found) v.session iri) x)) c.in-Err-lacked.is c.lack-visit.ensures in (
      answered_idle later last_one how.NoMemory c.answer-visit-in-Err-lacked.ensures,
      λ r. moved_more v later last_one loader loader loader (Pinned r op envelope (Err (stop.Missing iri))) (Pinned r op envelope (Err (stop.Missing iri))) _ (took_none v later _ t t.took (Pinned r op envelope (Err (stop.Missing iri))) loader)
          (answered_moved later last_one how.NoMemory c.answer-visit-in-Err-lacked.ensures (Pinned r op envelope (Err (stop.Missing iri))) loader),
    )
