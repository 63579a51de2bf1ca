use Rattle.std.proofs.Common.{◌≡◌, map, arith}
use Rattle.std.proofs.lemmas.Grind.{common_steps}
use Rattle.ld_tree.specs.formers.entries.Entries.{on_value}
use Rattle.ld_compact.specs.Slots.{tree_in}
use Rattle.ld_compact.proofs.Slots.{in_order_still, settled_is}
use Rattle.ld_compact.proofs.making.settled_entries.Goals as goal

pub from_sorted-requires : goal.from_sorted-requires
from_sorted-requires c =
    let all : c.loop-name.entries.items ≡ map (on_value tree_in) c.args.slots.0 = grind (arith, common_steps) in
    in_order_still c.args.slots c.loop-name.entries.items all

pub returns : goal.returns
returns c =
    let all : c.loop-name.entries.items ≡ map (on_value tree_in) c.args.slots.0 = grind (arith, common_steps) in
    settled_is c.args.slots c.from_sorted.result c.loop-name.entries.items c.from_sorted.ensures all
