use Rattle.ld_head.proofs.Unique.{first_is_said}
use Rattle.ld_head.proofs.laws.first_item_is_said.Goals as goal

pub returns : goal.returns
returns c = first_is_said
