use Rattle.std.proofs.Common.{◌≡◌, length}
use Rattle.std.specs.List.{list_all}
use Rattle.std.specs.Char.{is_ascii_digit}
use Rattle.ld_head.proofs.told.is_digits.Given as goal

abbrev pub invariant-loop-left : goal.invariant-loop-left
invariant-loop-left l = list_all is_ascii_digit l.left ≡ list_all is_ascii_digit l.value

abbrev pub decreases-loop-left : goal.decreases-loop-left
decreases-loop-left l = length l.left
