use Rattle.std.proofs.Common.{◌≡◌, ◌++◌, map}
use Rattle.ld_rec.specs.Values.{as_graph}
use Rattle.ld_expand.proofs.properties.graphs.Given as goal

abbrev pub invariant-loop-item : goal.invariant-loop-item
invariant-loop-item l = l.graphs.items ++ map as_graph l.item-iterator.rest.items ≡ map as_graph l.fn.items.items
