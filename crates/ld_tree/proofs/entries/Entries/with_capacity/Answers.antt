use Rattle.std.proofs.Common.{sym, subst}
use Rattle.std.specs.Map.{keys_of}
use Rattle.ld_tree.specs.Names.{AreInOrder}
use Rattle.ld_tree.specs.InOrder.{in_order_none}
use Rattle.ld_tree.proofs.entries.Entries.with_capacity.Goals as goal

pub invariant_of-result : goal.invariant_of-result
invariant_of-result g c = (subst (λ es. AreInOrder (keys_of es)) (sym c.in_ok-entries.ensures.items) in_order_none, tt)
