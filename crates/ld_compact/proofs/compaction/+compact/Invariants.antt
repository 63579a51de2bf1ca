use Rattle.std.proofs.Common.{◌≡◌, drop, map, []}
use Rattle.ld_tree.specs.Maps.{empty}
use Rattle.ld_rec.specs.Outcome.{each}
use Rattle.ld_compact.specs.Elements.{Whole, value_at}
use Rattle.ld_compact.specs.Compaction.{add_item, entry_rule, item_rule}
use Rattle.ld_compact.specs.Steps.{Keeps, placed, seen, item_beside, entry_beside}
use Rattle.ld_compact.proofs.compaction.+compact.Given as goal

abbrev pub invariant-compact_list-loop-item : goal.invariant-compact_list-loop-item
invariant-compact_list-loop-item g l =
    (((each (add_item (placed g.W.Kept.View.flat Whole l.place)) (map (item_beside l.place.arrays) l.items) []).run (g.W.Contexts.stock l.initial.work)).result
    ≡ ((each (add_item (placed g.W.Kept.View.flat Whole l.place)) (map (item_beside l.place.arrays) (drop l.item-index l.item-items)) l.compacted.items).run (g.W.Contexts.stock l.initial.work)).result)
    × Keeps g.W.Contexts.stock g.W.Contexts.gave l.initial.work l.work

abbrev pub invariant-compact_found-loop-key : goal.invariant-compact_found-loop-key
invariant-compact_found-loop-key g l =
    (value_at l.name (map (entry_beside l.place.arrays) l.entries.0) ≡ value_at l.name (map (entry_beside l.place.arrays) (drop l.key-index l.key-items)))
    × Keeps g.W.Contexts.stock g.W.Contexts.gave l.initial.work l.work

abbrev pub invariant-compact_entries-loop-name : goal.invariant-compact_entries-loop-name
invariant-compact_entries-loop-name g l =
    (((each (entry_rule l.place.arrays (seen g.W.Kept.View.flat l.types l.place)) (map (entry_beside l.place.arrays) l.entries.0) empty).run (g.W.Contexts.stock l.initial.work)).result
    ≡ ((each (entry_rule l.place.arrays (seen g.W.Kept.View.flat l.types l.place)) (map (entry_beside l.place.arrays) (drop l.name-index l.name-items)) l.made).run (g.W.Contexts.stock l.initial.work)).result)
    × Keeps g.W.Contexts.stock g.W.Contexts.gave l.initial.work l.work

abbrev pub invariant-add_each-loop-item : goal.invariant-add_each-loop-item
invariant-add_each-loop-item g l =
    (((each (item_rule l.place.arrays (seen g.W.Kept.View.flat l.types l.place) l.name) (map (item_beside l.place.arrays) l.items) l.initial.made).run (g.W.Contexts.stock l.initial.work)).result
    ≡ ((each (item_rule l.place.arrays (seen g.W.Kept.View.flat l.types l.place) l.name) (map (item_beside l.place.arrays) (drop l.item-index l.items)) l.made).run (g.W.Contexts.stock l.initial.work)).result)
    × Keeps g.W.Contexts.stock g.W.Contexts.gave l.initial.work l.work
