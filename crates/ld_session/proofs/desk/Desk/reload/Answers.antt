use Rattle.std.proofs.Common.{subst, inl}
use Rattle.ld_book.specs.Pages.{history_of}
use Rattle.ld_book.specs.Said.{told_revise}
use Rattle.ld_fits.specs.Play.{Request, Revising}
use Rattle.ld_history.specs.Steps.{revise_step}
use Rattle.ld_history.specs.declared.event.How.TheVariants as how
use Rattle.ld_history.specs.declared.session.Last.TheVariants as last
use Rattle.ld_tree.specs.declared.no_memory.NoMemory.{NoMemory}
use Rattle.ld_visit.specs.Taking.{TakesOr}
use Rattle.ld_visit.specs.Visits.{Took}
use Rattle.ld_session.specs.Adding.{moved_more}
use Rattle.ld_session.specs.Requesting.{revised_to}
use Rattle.ld_session.proofs.Ending.{ends_at_after}
use Rattle.ld_session.proofs.Moving.{still_stands, took_none, took_sound}
use Rattle.ld_session.proofs.Renewing.{revise_moved, revise_stands}
use Rattle.ld_session.proofs.Turning.{answered_idle, answered_moved}
use Rattle.ld_session.proofs.desk.Desk.reload.Goals as goal

pub go_on-requires-clause-sound : goal.go_on-requires-clause-sound
go_on-requires-clause-sound g c = took_sound c.args.visit c.revise-visit.result.0 _ c.revise-visit.ensures

pub go_on-requires-clause-revised : goal.go_on-requires-clause-revised
go_on-requires-clause-revised g c =
    let v = c.args.visit in
    let t = subst (λ x. Took v c.revise-visit.result.0 (TakesOr (told_revise c.args.iri.now) (λ found. revise_step (history_of found) v.session c.args.iri.now) x)) c.in-Ok.is c.revise-visit.ensures in
    revise_stands NoMemory v c.revise-visit.result.0 c.args.iri.now c.in-Ok.revised t

pub answer-visit-requires-clause-may : goal.answer-visit-requires-clause-may
answer-visit-requires-clause-may g c =
    let v = c.args.visit in
    let t = subst (λ x. Took v c.revise-visit.result.0 (TakesOr (told_revise c.args.iri.now) (λ found. revise_step (history_of found) v.session c.args.iri.now) x)) c.in-Err.is c.revise-visit.ensures in
    inl (still_stands v c.revise-visit.result.0 _ t t.took last.Pinned c.requires.pinned)

pub returns-in-Ok : goal.returns-in-Ok
returns-in-Ok g c =
    let v = c.args.visit in
    let later = c.revise-visit.result.0 in
    let iri = c.args.iri.now in
    let t = subst (λ x. Took v later (TakesOr (told_revise iri) (λ found. revise_step (history_of found) v.session iri) x)) c.in-Ok.is c.revise-visit.ensures in
    let before = g.L.Loader.loading c.args.loader.now in
    let after = g.L.Loader.loading c.go_on.new.loader in
    ends_at_after v later c.go_on.result.0 before before after c.args.version (λ r. Revising r iri) (λ r. revised_to r iri c.in-Ok.revised) (λ r. revise_moved NoMemory v later iri c.in-Ok.revised t before r) c.go_on.result.1 c.go_on.ensures

pub returns-in-Err : goal.returns-in-Err
returns-in-Err g c =
    let v = c.args.visit in
    let later = c.revise-visit.result.0 in
    let iri = c.args.iri.now in
    let loader = g.L.Loader.loading c.args.loader.now in
    let t = subst (λ x. Took v later (TakesOr (told_revise iri) (λ found. revise_step (history_of found) v.session iri) x)) c.in-Err.is c.revise-visit.ensures in (
      answered_idle later c.answer-visit.result how.NoMemory c.answer-visit.ensures,
      λ r. let at : Request = record r { version = c.args.version } in moved_more v later c.answer-visit.result loader loader loader (Revising at iri) (Revising at iri) _ (took_none v later _ t t.took (Revising at iri) loader)
          (answered_moved later c.answer-visit.result how.NoMemory c.answer-visit.ensures (Revising at iri) loader),
    )
