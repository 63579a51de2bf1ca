use Rattle.std.proofs.Common.{sym, subst}
use Rattle.ld_head.specs.Dialogues.{Opens, Stops}
use Rattle.ld_head.proofs.Arriving.{stops_there}
use Rattle.ld_head.proofs.begun.Begun.ending.Goals as goal

pub returns-clause-opens : goal.returns-clause-opens
returns-clause-opens c = λ n. subst (λ e. Opens n c.args.self.now (Stops e)) (sym c.ending.ensures.ending) (rw (← c.self.view_is) (stops_there _ _ c.self.invariant n))
