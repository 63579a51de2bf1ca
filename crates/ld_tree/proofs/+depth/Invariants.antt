use Rattle.std.proofs.Common.{◌≡◌, ◌-◌, ◌^◌, ◌≤◌, min, max, map, drop}
use Rattle.std.specs.Map.{values_of}
use Rattle.ld_tree.specs.Trees.{depth_of, greatest}
use Rattle.ld_tree.proofs.+depth.Given as goal

abbrev pub invariant-depth::entries_depth-loop-value :
    goal.invariant-depth::entries_depth-loop-value
invariant-depth::entries_depth-loop-value l =
    (min (max l.deepest (greatest (values_of (map (λ e. (e.0, depth_of e.1)) (drop l.value-index l.value-items))))) (2 ^ 32 - 1) ≡ min (greatest (values_of (map (λ e. (e.0, depth_of e.1)) l.entries.0))) (2 ^ 32 - 1)) × (l.deepest ≤ 2 ^ 32 - 1)

abbrev pub invariant-depth::items_depth-loop-item : goal.invariant-depth::items_depth-loop-item
invariant-depth::items_depth-loop-item l =
    (min (max l.deepest (greatest (map depth_of (drop l.item-index l.item-items)))) (2 ^ 32 - 1) ≡ min (greatest (map depth_of l.items)) (2 ^ 32 - 1)) × (l.deepest ≤ 2 ^ 32 - 1)
