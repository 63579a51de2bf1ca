use Rattle.std.proofs.Common.{◌≡◌, ◌++◌, length}
use Rattle.ld_tree.specs.CompactText.{escaped}
use Rattle.ld_tree_write.proofs.print.print_escaped.Given as goal

abbrev pub invariant-loop-rest : goal.invariant-loop-rest
invariant-loop-rest l = l.out.items ++ escaped l.rest ≡ l.initial.out.items ++ escaped l.bytes

abbrev pub decreases-loop-rest : goal.decreases-loop-rest
decreases-loop-rest l = length l.rest
