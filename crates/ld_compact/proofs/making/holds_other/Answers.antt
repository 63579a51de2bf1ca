use Rattle.std.proofs.Common.{◌∙◌}
use Rattle.ld_compact.proofs.Slots.{slot_other, none_other}
use Rattle.ld_compact.proofs.making.holds_other.Goals as goal

pub returns-in-Some : goal.returns-in-Some
returns-in-Some c = c.is_no_map.ensures ∙ slot_other c.args.slots.now c.args.name.now c.in-Some.slot.now c.in-Some.ensures

pub returns-in-None : goal.returns-in-None
returns-in-None c = none_other c.args.slots.now c.args.name.now c.in-None.ensures
