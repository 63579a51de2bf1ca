use Rattle.std.proofs.Common.{◌≡◌, drop, map, []}
use Rattle.std.specs.Prelude.{option_copied}
use Rattle.ld_tree.specs.Maps.{empty}
use Rattle.ld_rec.specs.Outcome.{each}
use Rattle.ld_rec.specs.Expansion.{add_item, add_key, by_entry}
use Rattle.ld_expand.specs.Steps.{Keeps, placed, seen, beside, entry_beside}
use Rattle.ld_expand.proofs.expansion.+expand.Given as goal

abbrev pub invariant-expand_list-loop-item : goal.invariant-expand_list-loop-item
invariant-expand_list-loop-item g l =
    (((each (add_item l.containers (placed g.C.Kept.View.flat l.place)) (map (beside (option_copied l.place.base)) l.items) []).run (g.C.Contexts.stock l.initial.contexts)).result
    ≡ ((each (add_item l.containers (placed g.C.Kept.View.flat l.place)) (map (beside (option_copied l.place.base)) (drop l.item-index l.item-items)) l.joined.items).run (g.C.Contexts.stock l.initial.contexts)).result)
    × Keeps g.C.Contexts.stock g.C.Contexts.gave l.initial.contexts l.contexts

abbrev pub invariant-expand_keyed-loop-key : goal.invariant-expand_keyed-loop-key
invariant-expand_keyed-loop-key g l =
    (((each (add_key l.containers (placed g.C.Kept.View.flat l.place)) (map (entry_beside (option_copied l.place.base)) l.entries.0) []).run (g.C.Contexts.stock l.initial.contexts)).result
    ≡ ((each (add_key l.containers (placed g.C.Kept.View.flat l.place)) (map (entry_beside (option_copied l.place.base)) (drop l.key-index l.key-items)) l.joined.items).run (g.C.Contexts.stock l.initial.contexts)).result)
    × Keeps g.C.Contexts.stock g.C.Contexts.gave l.initial.contexts l.contexts

abbrev pub invariant-expand_node-loop-name : goal.invariant-expand_node-loop-name
invariant-expand_node-loop-name g l =
    (((each (by_entry (seen g.C.Kept.View.flat l.node)) (map (entry_beside (option_copied l.node.base)) l.entries.0) empty).run (g.C.Contexts.stock l.initial.contexts)).result
    ≡ ((each (by_entry (seen g.C.Kept.View.flat l.node)) (map (entry_beside (option_copied l.node.base)) (drop l.name-index l.name-items)) l.made).run (g.C.Contexts.stock l.initial.contexts)).result)
    × Keeps g.C.Contexts.stock g.C.Contexts.gave l.initial.contexts l.contexts
