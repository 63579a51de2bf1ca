use Rattle.ld_term.proofs.Along.{comes_then, comes_err, stops_first}
use Rattle.ld_term.proofs.ending.unnested.Goals as goal

pub returns-in_err-def : goal.returns-in_err-def
returns-in_err-def c = λ made. comes_err _ _ _ _ c.from_residual.ensures.1 (stops_first _ _ _ (c.in_err-def.ensures made))

pub returns : goal.returns
returns c = λ made. comes_then _ _ _ _ _ (c.in_ok-def.ensures made) (c.without_nest.ensures made)
