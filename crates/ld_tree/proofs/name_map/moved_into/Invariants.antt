use Rattle.std.proofs.Common.{◌≡◌, ◌≤◌, ◌+◌, ◌++◌, length, vec_capacity}
use Rattle.std.specs.Vec.{vec_len}
use Rattle.ld_tree.specs.Texts.{named}
use Rattle.ld_tree.proofs.name_map.moved_into.Given as goal

abbrev pub invariant-loop-name : goal.invariant-loop-name
invariant-loop-name g l =
    (goal.iterator-loop-name g).can_next l.name-iterator × (goal.iterator-loop-name g).is_finite l.name-iterator
    × (l.room.items ++ named l.name-iterator ≡ named l.fn.by_name.entries)
    × (vec_len l.room + length l.name-iterator ≤ vec_capacity l.room)
