use Rattle.std.proofs.Common.{◌∙◌, sym, ap, subst}
use Rattle.ld_answer.specs.Bodies.{load_fault_body}
use Rattle.ld_fits.specs.Play.{Lacking, Reloading}
use Rattle.ld_head.specs.declared.outcome.Outcome.TheVariants as outcome
use Rattle.ld_history.specs.declared.event.How.TheVariants as how
use Rattle.ld_tree.specs.declared.tree.Tree.{Tree}
use Rattle.ld_session.specs.Requesting.{Ends}
use Rattle.ld_session.proofs.Ending.{fault_lacking, fault_reloading}
use Rattle.ld_session.proofs.Turning.{answered_idle, answered_moved}
use Rattle.ld_session.proofs.desk.Desk.fault.Goals as goal

pub returns-in-Ok-clause-lacking : goal.returns-in-Ok-clause-lacking
returns-in-Ok-clause-lacking g c loader op envelope =
    let a = c.args in
    subst (λ (body : Tree). Ends a.visit c.answer-visit.result loader loader (λ r. Lacking r op envelope a.iri.now) (outcome.LoadFault body)) (sym (c.in-Ok.ensures ∙ ap (λ i. load_fault_body i a.flight a.before a.after) c.as_str.ensures))
    (fault_lacking a.visit c.answer-visit.result a.iri.now a.flight a.before a.after c.requires.of c.requires.ended c.answer-visit.ensures loader op envelope)

pub returns-in-Ok-clause-reloading : goal.returns-in-Ok-clause-reloading
returns-in-Ok-clause-reloading g c loader =
    let a = c.args in
    subst (λ (body : Tree). Ends a.visit c.answer-visit.result loader loader (λ r. Reloading r a.iri.now) (outcome.LoadFault body)) (sym (c.in-Ok.ensures ∙ ap (λ i. load_fault_body i a.flight a.before a.after) c.as_str.ensures))
    (fault_reloading a.visit c.answer-visit.result a.iri.now a.flight a.before a.after c.requires.of c.requires.ended c.answer-visit.ensures loader)

pub returns-in-Err-clause-lacking : goal.returns-in-Err-clause-lacking
returns-in-Err-clause-lacking g c loader op envelope = (
  answered_idle c.args.visit c.answer-visit-in-Err.result how.NoMemory c.answer-visit-in-Err.ensures,
  λ r. answered_moved c.args.visit c.answer-visit-in-Err.result how.NoMemory c.answer-visit-in-Err.ensures (Lacking r op envelope c.args.iri.now) loader,
)

pub returns-in-Err-clause-reloading : goal.returns-in-Err-clause-reloading
returns-in-Err-clause-reloading g c loader = (
  answered_idle c.args.visit c.answer-visit-in-Err.result how.NoMemory c.answer-visit-in-Err.ensures,
  λ r. answered_moved c.args.visit c.answer-visit-in-Err.result how.NoMemory c.answer-visit-in-Err.ensures (Reloading r c.args.iri.now) loader,
)
