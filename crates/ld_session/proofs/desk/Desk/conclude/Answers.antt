use Rattle.ld_fits.specs.Play.{Reloading, Request}
use Rattle.ld_history.specs.declared.event.How.TheVariants as how
use Rattle.ld_session.proofs.Turning.{answered_idle, answered_moved}
use Rattle.ld_session.proofs.desk.Desk.conclude.Goals as goal

pub returns-in-Published : goal.returns-in-Published
returns-in-Published g c loader = (
  answered_idle c.args.visit c.answer-visit.result (how.Revised c.in-Published.version) c.answer-visit.ensures,
  λ r. answered_moved c.args.visit c.answer-visit.result (how.Revised c.in-Published.version) c.answer-visit.ensures (Reloading (record r { version = c.args.version }) c.args.iri.now) loader,
)

pub returns-in-Same : goal.returns-in-Same
returns-in-Same g c loader = (
  answered_idle c.args.visit c.answer-visit-in-Same.result how.Same c.answer-visit-in-Same.ensures,
  λ r. answered_moved c.args.visit c.answer-visit-in-Same.result how.Same c.answer-visit-in-Same.ensures (Reloading (record r { version = c.args.version }) c.args.iri.now) loader,
)

pub returns-in-Failed : goal.returns-in-Failed
returns-in-Failed g c loader =
    let e = c.fault.ensures.reloading loader in
    (e.0, λ r. let at : Request = record r { version = c.args.version } in e.1 at)

pub returns-in-Lapsed : goal.returns-in-Lapsed
returns-in-Lapsed g c loader = (
  answered_idle c.args.visit c.answer-visit-in-Lapsed.result how.NoMemory c.answer-visit-in-Lapsed.ensures,
  λ r. answered_moved c.args.visit c.answer-visit-in-Lapsed.result how.NoMemory c.answer-visit-in-Lapsed.ensures (Reloading (record r { version = c.args.version }) c.args.iri.now) loader,
)
