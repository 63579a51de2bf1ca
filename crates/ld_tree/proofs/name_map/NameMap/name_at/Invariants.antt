use Rattle.std.proofs.Common.{◌≡◌}
use Rattle.std.specs.Prelude.{slice_get}
use Rattle.std.specs.Map.{keys_of}
use Rattle.ld_tree.specs.Texts.{named}
use Rattle.ld_tree.proofs.name_map.NameMap.name_at.Given as goal

abbrev pub invariant-loop-name : goal.invariant-loop-name
invariant-loop-name g l =
    (goal.iterator-loop-name g).can_next l.name-iterator × (goal.iterator-loop-name g).is_finite l.name-iterator
    × (slice_get (keys_of (named l.name-iterator)) l.left ≡ slice_get (keys_of l.fn.self.0) l.fn.place)
