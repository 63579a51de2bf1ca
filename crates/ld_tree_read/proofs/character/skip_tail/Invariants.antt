use Rattle.std.proofs.Common.{◌≤◌, length, List, ℕ}
use Rattle.ld_tree_read.specs.Cursor.{left}
use Rattle.ld_tree_read.specs.Grammar.{IsRest}
use Rattle.ld_tree_read.specs.State.{begun, tail, rest_left}
use Rattle.ld_tree_read.specs.Strings.{LeadsIn, IsTail}
use Rattle.ld_tree_read.proofs.character.skip_tail.Given as goal

abbrev pub invariant-loop-due : goal.invariant-loop-due
invariant-loop-due l = record {
  passed : (r : List ℕ) → IsRest l.due (left l.cursor) r → IsTail l.fn.low l.fn.high l.fn.more (left l.fn.cursor) r;
  leads : LeadsIn l.fn.cursor (begun (tail l.fn.low l.fn.high l.fn.more)) l.cursor (rest_left l.due);
  shorter : length (left l.cursor) ≤ length (left l.fn.cursor);
}

abbrev pub decreases-loop-due : goal.decreases-loop-due
decreases-loop-due l = l.due
