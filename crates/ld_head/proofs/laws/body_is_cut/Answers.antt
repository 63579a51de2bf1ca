use Rattle.ld_head.proofs.Bodies.{body_is_cut}
use Rattle.ld_head.proofs.laws.body_is_cut.Goals as goal

pub returns : goal.returns
returns c = body_is_cut
