use Rattle.std.proofs.Common.{◌∙◌}
use Rattle.ld_expand.proofs.Slots.{has_is}
use Rattle.ld_expand.proofs.making.Making.has.Goals as goal

pub returns : goal.returns
returns c = c.is_some.ensures ∙ has_is c.self.inside.slots c.args.self.now c.args.name.now c.get.result c.get.ensures c.self.view_is
