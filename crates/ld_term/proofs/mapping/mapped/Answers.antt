use Rattle.ld_term.specs.Waits.{made_of}
use Rattle.ld_term.proofs.Along.{comes_then, comes_err, stops_first}
use Rattle.ld_term.proofs.mapping.mapped.Goals as goal

pub returns-in_err-def-clause-gives : goal.returns-in_err-def-clause-gives
returns-in_err-def-clause-gives c = λ check define local. comes_err _ _ _ _ c.from_residual.ensures.1 (stops_first _ _ _ (rw c.get.ensures at (c.in_err-def.ensures (made_of c.args.made.now c.args.defined.now))))

pub returns-clause-gives : goal.returns-clause-gives
returns-clause-gives c = λ check define local. comes_then _ _ _ _ _ (rw c.get.ensures at (c.in_ok-def.ensures (made_of c.args.made.now c.args.defined.now))) (c.ended.ensures.gives check define local)
