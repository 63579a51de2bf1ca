use Rattle.std.proofs.Common.{subst, false}
use Rattle.ld_term.specs.Sizes.{Grows, Enters}
use Rattle.ld_term.proofs.Shrinking.{anyhow}
use Rattle.ld_term.proofs.begin.begin.Goals as goal

pub returns-clause-enters : goal.returns-clause-enters
returns-clause-enters c = anyhow c.by_value.result (Enters c.args.defined.now c.args.term c.by_value.new.defined) (false, subst (λ t. Grows t c.by_value.new.defined) c.in_ok-previous.ensures.table c.by_value.ensures.table)

pub returns-clause-gives : goal.returns-clause-gives
returns-clause-gives c = λ check define. rw (← c.in_ok-previous.ensures.previous, ← c.in_ok-previous.ensures.begun) (c.by_value.ensures.gives check define)
