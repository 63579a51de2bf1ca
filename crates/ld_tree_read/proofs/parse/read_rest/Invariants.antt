use Rattle.std.proofs.Common.{◌≡◌, ◌≤◌, length, [], None}
use Rattle.ld_tree_read.specs.Cursor.{left, ahead}
use Rattle.ld_tree_read.specs.Stack.{Becomes, levels, due_here}
use Rattle.ld_tree_read.specs.State.{value}
use Rattle.ld_tree_read.specs.Steps.{NoWhite}
use Rattle.ld_tree_read.proofs.parse.read_rest.Given as goal

abbrev pub invariant-loop-read : goal.invariant-loop-read
invariant-loop-read l = record {
  room : length l.stack.items ≤ 128;
  found : Becomes [] None (left l.fn.cursor) l.stack.items l.read (left l.cursor);
  same : ahead l.fn.cursor [] value ≡ ahead l.cursor (levels l.stack.items) (due_here l.read);
  space : l.read ≡ None → NoWhite (left l.cursor);
}

abbrev pub decreases-loop-read : goal.decreases-loop-read
decreases-loop-read l = length (left l.cursor)
