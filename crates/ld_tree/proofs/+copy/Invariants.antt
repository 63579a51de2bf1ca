use Rattle.std.proofs.Common.{◌≡◌, take}
use Rattle.ld_tree.proofs.+copy.Given as goal

abbrev pub invariant-copy::copy_entries-loop-name : goal.invariant-copy::copy_entries-loop-name
invariant-copy::copy_entries-loop-name l = l.copied.items ≡ take l.name-index l.name-items

abbrev pub invariant-copy::copy_items-loop-item : goal.invariant-copy::copy_items-loop-item
invariant-copy::copy_items-loop-item l = l.copied ≡ take l.item-index l.item-items
