use Rattle.std.proofs.Common.{length, take}
use Rattle.std.specs.List.{prefix_len}
use Rattle.std.specs.Str.{IsUtf8}
use Rattle.ld_tree.specs.Reading.{is_unescaped}
use Rattle.ld_tree_read.specs.Cursor.{left}
use Rattle.ld_tree_read.specs.State.{plain}
use Rattle.ld_tree_read.specs.Strings.{LeadsIn}
use Rattle.ld_tree_read.proofs.character.broken.Given as goal

abbrev pub invariant-loop-e : goal.invariant-loop-e
invariant-loop-e l = record {
  leads : LeadsIn l.fn.cursor plain l.cursor plain;
  bad : IsUtf8 (take (prefix_len is_unescaped (left l.cursor)) (left l.cursor)) → ⊥;
}

abbrev pub decreases-loop-e : goal.decreases-loop-e
decreases-loop-e l = length (left l.cursor)
