-- The entries that a result at work stands for.
use Rattle.std.specs.Prelude.{map}
use Rattle.ld_tree.specs.Names.{Sorted}
use Rattle.ld_tree.specs.formers.entries.Entries.{on_value, to_shape}
use Rattle.ld_tree.specs.declared.tree.Tree.{Tree}
use Rattle.ld_rec.specs.Kinds.{map_of}
use Rattle.ld_expand.specs.declared.making.Slot.{Slot}
use Rattle.ld_expand.specs.declared.making.Slot.TheVariants.{Settled, Open}

abbrev pub tree_in : Slot → Tree
tree_in (Settled tree) = tree
tree_in (Open entries) = map_of entries

abbrev pub result_of : Sorted Slot → Sorted Tree
result_of slots = (map (on_value tree_in) slots.0, to_shape tree_in slots.0 slots.1)
