use Rattle.std.proofs.Common.{◌≡◌, ◌++◌, map}
use Rattle.ld_tree.specs.formers.entries.Entries.{on_value}
use Rattle.ld_compact.specs.Slots.{tree_in}
use Rattle.ld_compact.proofs.making.settled_entries.Given as goal

abbrev pub invariant-loop-name : goal.invariant-loop-name
invariant-loop-name l = l.entries.items ++ map (on_value tree_in) l.name-iterator.rest.items ≡ map (on_value tree_in) l.fn.slots.0
