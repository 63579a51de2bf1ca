use Rattle.ld_tree.proofs.Order.{in_order_none}
use Rattle.ld_tree.proofs.entries.Entries.new.Goals as goal

pub invariant_of-result : goal.invariant_of-result
invariant_of-result g c = rw c.new.ensures.items (in_order_none, tt)
