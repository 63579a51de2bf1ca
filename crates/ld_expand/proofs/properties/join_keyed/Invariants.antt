use Rattle.std.proofs.Common.{◌≡◌, ◌++◌, map}
use Rattle.ld_rec.specs.Words.{items_of}
use Rattle.ld_rec.specs.Values.{index_item, expanded_key}
use Rattle.ld_expand.proofs.properties.join_keyed.Given as goal

abbrev pub invariant-loop-item : goal.invariant-loop-item
invariant-loop-item g l =
    l.joined.items ++ map (index_item l.containers l.key (expanded_key (g.K.View.flat l.view) l.containers l.key)) l.item-iterator.rest.items
    ≡ l.initial.joined.items ++ map (index_item l.containers l.key (expanded_key (g.K.View.flat l.view) l.containers l.key)) (items_of l.fn.tree)
