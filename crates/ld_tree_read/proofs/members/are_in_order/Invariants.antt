use Rattle.std.proofs.Common.{◌≡◌, ℕ, suc, ◌<◌, [], get_or}
use Rattle.std.specs.Map.{keys_of}
use Rattle.std.specs.declared.cmp.Ordering.TheVariants.{Less}
use Rattle.ld_tree.specs.Names.{name_cmp}
use Rattle.ld_tree_read.proofs.members.are_in_order.Given as goal

abbrev pub invariant-loop-i : goal.invariant-loop-i
invariant-loop-i l = (j k : ℕ) → k ≡ suc j → k < l.i → name_cmp (get_or (keys_of l.members) j []) (get_or (keys_of l.members) k []) ≡ Less
