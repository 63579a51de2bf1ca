use Rattle.std.proofs.Common.{ap, sym, subst}
use Rattle.std.specs.Map.{keys_of}
use Rattle.ld_tree.specs.Names.{AreInOrder, same_sorted}
use Rattle.ld_tree.specs.InOrder.{in_order_none}
use Rattle.ld_tree.specs.Texts.{named}
use Rattle.ld_tree.proofs.name_map.NameMap.new.Goals as goal

pub invariant_of-result : goal.invariant_of-result
invariant_of-result g c = (subst (λ es. AreInOrder (keys_of (named es))) (sym c.new.ensures.empty) in_order_none, tt)

pub returns : goal.returns
returns g c = same_sorted _ _ (ap named c.new.ensures.empty)
