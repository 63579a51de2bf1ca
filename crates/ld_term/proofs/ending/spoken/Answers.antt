use Rattle.ld_term.proofs.Along.{comes_then}
use Rattle.ld_term.proofs.ending.spoken.Goals as goal

pub returns : goal.returns
returns c = λ made. comes_then _ _ _ _ _ (c.in_ok-def.ensures made) (c.without_direction.ensures made)
