use Rattle.std.proofs.Common.{◌≡◌, map, drop}
use Rattle.ld_tree.specs.formers.entries.Entries.{on_value}
use Rattle.ld_nodes.specs.Places.{place_of, pass_of}
use Rattle.ld_nodes.specs.Walks.{walk_of}
use Rattle.ld_nodes.specs.Visits.{child_of, visit_each, visit_entries}
use Rattle.ld_nodes.proofs.walk.Walker.+visit.Given as goal

abbrev pub invariant-visit_each-loop-item : goal.invariant-visit_each-loop-item
invariant-visit_each-loop-item l =
    visit_each (map child_of (drop l.item-index l.item-items)) l.graph (place_of l.place) (walk_of l.self) ≡ visit_each (map child_of l.items) l.graph (place_of l.place) (walk_of l.initial.self)

abbrev pub invariant-visit_entries-loop-name : goal.invariant-visit_entries-loop-name
invariant-visit_entries-loop-name l =
    visit_entries (pass_of l.pass) (map (on_value child_of) (drop l.name-index l.name-items)) (walk_of l.self) ≡ visit_entries (pass_of l.pass) (map (on_value child_of) l.entries.0) (walk_of l.initial.self)
