use Rattle.std.proofs.Common.{◌≡◌, drop}
use Rattle.std.specs.List.{list_all}
use Rattle.ld_rec.specs.Kinds.{is_node_object}
use Rattle.ld_expand.proofs.keywords.are_node_objects.Given as goal

abbrev pub invariant-loop-item : goal.invariant-loop-item
invariant-loop-item l = list_all is_node_object (drop l.item-index l.items) ≡ list_all is_node_object l.items
