use Rattle.std.proofs.Common.{◌≡◌, drop}
use Rattle.ld_tree.specs.Numbers.{value_after, value_of}
use Rattle.ld_tree_read.proofs.decimal.value_of.Given as goal

abbrev pub invariant-loop-byte : goal.invariant-loop-byte
invariant-loop-byte l = value_after l.value (drop l.byte-index l.digits) ≡ value_of l.digits
