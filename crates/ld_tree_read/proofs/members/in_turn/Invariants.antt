use Rattle.std.proofs.Common.{◌≡◌, []}
use Rattle.ld_tree.specs.Reading.{put_all}
use Rattle.ld_tree_read.proofs.members.in_turn.Given as goal

abbrev pub invariant-loop-name : goal.invariant-loop-name
invariant-loop-name l = l.entries.0 ≡ put_all [] l.yielded
