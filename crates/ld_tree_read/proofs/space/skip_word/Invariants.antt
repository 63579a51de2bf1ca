use Rattle.std.proofs.Common.{◌≡◌, ◌≤◌, ◌++◌, length, take, drop}
use Rattle.ld_tree_read.specs.Cursor.{left, Leads}
use Rattle.ld_tree_read.specs.Steps.{word_here}
use Rattle.ld_tree_read.proofs.space.skip_word.Given as goal

abbrev pub invariant-loop-byte : goal.invariant-loop-byte
invariant-loop-byte l = record { passed : left l.fn.cursor ≡ take l.byte-index l.rest ++ left l.cursor; leads : Leads l.fn.cursor (word_here l.rest) l.cursor (word_here (drop l.byte-index l.rest)); shorter : length (left l.cursor) ≤ length (left l.fn.cursor) }
