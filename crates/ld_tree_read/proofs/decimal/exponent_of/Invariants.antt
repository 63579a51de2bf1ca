use Rattle.std.proofs.Common.{◌≡◌, ◌-◌, ◌^◌, min, take}
use Rattle.ld_tree.specs.Numbers.{value_of}
use Rattle.ld_tree_read.proofs.decimal.exponent_of.Given as goal

abbrev pub invariant-loop-byte : goal.invariant-loop-byte
invariant-loop-byte l = l.value ≡ min (value_of (take l.byte-index l.digits)) (2 ^ 64 - 1)
