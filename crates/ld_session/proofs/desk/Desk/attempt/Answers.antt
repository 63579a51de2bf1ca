use Rattle.std.proofs.Common.{◌≡◌, ◌∙◌, subst, Err, None, Some}
use Rattle.ld_fits.specs.Play.{Pinned, result}
use Rattle.ld_history.specs.declared.event.How.TheVariants as how
use Rattle.ld_rec.specs.declared.stop.Stop.TheVariants as stop
use Rattle.ld_talk.specs.declared.judging.Judged.TheVariants as judged
use Rattle.ld_session.specs.Requesting.{Brought, given_at}
use Rattle.ld_session.proofs.Requesting.{attempt_again, attempt_brought, attempt_done, attempt_lacks, judged_over, some_request}
use Rattle.ld_session.proofs.Turning.{answered_idle, answered_moved}
use Rattle.ld_session.proofs.desk.Desk.attempt.Goals as goal

pub returns-in-Ok-Outcome : goal.returns-in-Ok-Outcome
returns-in-Ok-Outcome g c =
    let a = c.args in
    let pin = a.pinned.now in
    let outcome = c.in-Ok-Outcome.outcome in
    let is = judged_over pin a.op a.envelope.now c.deref.result.now c.deref.ensures (judged.Outcome outcome) c.in-Ok-Outcome.field-0 c.in-Ok-Outcome.field-0-is c.in-Ok-Outcome.ensures in
    attempt_done a.visit c.answer-visit.result c.answer-visit.ensures a.op a.envelope.now pin outcome (g.L.Loader.loading a.loader.now) is

pub bring-visit-requires-clause-may : goal.bring-visit-requires-clause-may
bring-visit-requires-clause-may g c =
    let a = c.args in
    let pin = a.pinned.now in
    let is = judged_over pin a.op a.envelope.now c.deref.result.now c.deref.ensures (judged.Missing c.in-Ok-Missing.iri) c.in-Ok-Missing.field-0 c.in-Ok-Missing.field-0-is c.in-Ok-Missing.ensures in
    attempt_lacks a.visit pin c.requires.at a.op a.envelope.now c.in-Ok-Missing.iri is

pub returns-in-Some : goal.returns-in-Some
returns-in-Some g c =
    let a = c.args in
    let pin = a.pinned.now in
    let iri = c.in-Ok-Missing.iri in
    let is = judged_over pin a.op a.envelope.now c.deref.result.now c.deref.ensures (judged.Missing iri) c.in-Ok-Missing.field-0 c.in-Ok-Missing.field-0-is c.in-Ok-Missing.ensures in
    let before = g.L.Loader.loading a.loader.now in
    let after = g.L.Loader.loading c.bring-visit.new.loader in
    let b = subst (λ o. Brought a.visit c.bring-visit.result.0 before after a.op a.envelope.now iri (λ r. Pinned r a.op a.envelope.now (Err (stop.Missing iri))) o) c.in-Some.is (c.bring-visit.ensures a.op a.envelope.now) in
    attempt_brought a.visit c.bring-visit.result.0 before after a.op a.envelope.now pin iri is (Some c.in-Some.outcome) b

pub pin_again-requires-clause-lock : goal.pin_again-requires-clause-lock
pin_again-requires-clause-lock g c =
    let a = c.args in
    let iri = c.in-Ok-Missing.iri in
    let before = g.L.Loader.loading a.loader.now in
    let after = g.L.Loader.loading c.bring-visit.new.loader in
    let b = subst (λ o. Brought a.visit c.bring-visit.result.0 before after a.op a.envelope.now iri (λ r. Pinned r a.op a.envelope.now (Err (stop.Missing iri))) o) c.in-None.is (c.bring-visit.ensures a.op a.envelope.now) in
    (b.1 some_request).lock_is ∙ c.requires.lock

pub pin_again-requires-clause-may : goal.pin_again-requires-clause-may
pin_again-requires-clause-may g c =
    let a = c.args in
    let iri = c.in-Ok-Missing.iri in
    let before = g.L.Loader.loading a.loader.now in
    let after = g.L.Loader.loading c.bring-visit.new.loader in
    let b = subst (λ o. Brought a.visit c.bring-visit.result.0 before after a.op a.envelope.now iri (λ r. Pinned r a.op a.envelope.now (Err (stop.Missing iri))) o) c.in-None.is (c.bring-visit.ensures a.op a.envelope.now) in
    b.0

pub returns-in-Ok-Missing : goal.returns-in-Ok-Missing
returns-in-Ok-Missing g c =
    let a = c.args in
    let pin = a.pinned.now in
    let iri = c.in-Ok-Missing.iri in
    let is = judged_over pin a.op a.envelope.now c.deref.result.now c.deref.ensures (judged.Missing iri) c.in-Ok-Missing.field-0 c.in-Ok-Missing.field-0-is c.in-Ok-Missing.ensures in
    let before = g.L.Loader.loading a.loader.now in
    let after = g.L.Loader.loading c.bring-visit.new.loader in
    let b = subst (λ o. Brought a.visit c.bring-visit.result.0 before after a.op a.envelope.now iri (λ r. Pinned r a.op a.envelope.now (Err (stop.Missing iri))) o) c.in-None.is (c.bring-visit.ensures a.op a.envelope.now) in
    attempt_again a.visit c.bring-visit.result.0 before after a.op a.envelope.now pin iri is c.pin_again.result.0 after b c.pin_again.result.1 (c.pin_again.ensures after a.op a.envelope.now iri)

pub returns : goal.returns
returns g c = (
  answered_idle c.args.visit c.answer-visit-in-Err.result how.NoMemory c.answer-visit-in-Err.ensures,
  λ r. answered_moved c.args.visit c.answer-visit-in-Err.result how.NoMemory c.answer-visit-in-Err.ensures (Pinned r c.args.op c.args.envelope.now (given_at c.args.pinned.now c.args.op c.args.envelope.now)) (g.L.Loader.loading c.args.loader.now),
)
