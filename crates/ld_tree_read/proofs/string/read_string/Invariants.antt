use Rattle.std.proofs.Common.{◌≤◌, length}
use Rattle.std.specs.Prelude.{string_bytes}
use Rattle.ld_tree_read.specs.Cursor.{left}
use Rattle.ld_tree_read.specs.State.{plain}
use Rattle.ld_tree_read.specs.Strings.{LeadsIn}
use Rattle.ld_tree_read.proofs.Scan.{Continues}
use Rattle.ld_tree_read.proofs.string.read_string.Given as goal

abbrev pub invariant-loop-text : goal.invariant-loop-text
invariant-loop-text l = record {
  continues : Continues (left l.fn.cursor) (string_bytes l.text) (left l.cursor);
  leads : LeadsIn l.fn.cursor plain l.cursor plain;
  shorter : length (left l.cursor) ≤ length (left l.fn.cursor);
}

abbrev pub decreases-loop-text : goal.decreases-loop-text
decreases-loop-text l = length (left l.cursor)
