use Rattle.std.proofs.Common.{◌-◌}
use Rattle.ld_history.proofs.Turns.{IsCounted}
use Rattle.ld_history.proofs.rules.turns_until.Given as goal

abbrev pub invariant-loop-low : goal.invariant-loop-low
invariant-loop-low l = IsCounted l.turns l.version l.low l.high

abbrev pub decreases-loop-low : goal.decreases-loop-low
decreases-loop-low l = l.high - l.low
