use Rattle.ld_head.proofs.Bodies.{item_stays}
use Rattle.ld_head.proofs.laws.item_stays.Goals as goal

pub returns : goal.returns
returns c = item_stays
