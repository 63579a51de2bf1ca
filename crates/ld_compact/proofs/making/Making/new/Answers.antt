use Rattle.ld_compact.proofs.Slots.{none_made}
use Rattle.ld_compact.proofs.making.Making.new.Goals as goal

pub returns : goal.returns
returns c = none_made c.new.result c.new.ensures
