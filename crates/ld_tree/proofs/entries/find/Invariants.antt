use Rattle.std.proofs.Common.{◌-◌}
use Rattle.std.specs.Map.{keys_of}
use Rattle.ld_tree.proofs.Order.{IsBetween}
use Rattle.ld_tree.proofs.entries.find.Given as goal

abbrev pub invariant-loop-low : goal.invariant-loop-low
invariant-loop-low g l = IsBetween l.name (keys_of l.entries) l.low l.high

abbrev pub decreases-loop-low : goal.decreases-loop-low
decreases-loop-low g l = l.high - l.low
