use Rattle.ld_expand.proofs.Slots.{none_made}
use Rattle.ld_expand.proofs.making.Making.new.Goals as goal

pub returns : goal.returns
returns c = none_made c.new.result c.new.ensures
