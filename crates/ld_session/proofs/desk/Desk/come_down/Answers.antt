use Rattle.ld_fits.specs.Play.{Lacking}
use Rattle.ld_history.specs.declared.event.How.TheVariants as how
use Rattle.ld_session.proofs.Turning.{answered_idle, answered_moved}
use Rattle.ld_session.proofs.desk.Desk.come_down.Goals as goal

pub returns-in-Lapsed : goal.returns-in-Lapsed
returns-in-Lapsed g c loader op envelope = (
  answered_idle c.args.visit c.answer-visit.result how.NoMemory c.answer-visit.ensures,
  λ r. answered_moved c.args.visit c.answer-visit.result how.NoMemory c.answer-visit.ensures (Lacking r op envelope c.args.iri.now) loader,
)
