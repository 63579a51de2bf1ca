use Rattle.std.proofs.Common.{◌-◌, ◌≤◌}
use Rattle.ld_head.proofs.Counting.{Leads}
use Rattle.ld_head.proofs.whole.outline.Given as goal

abbrev pub invariant-loop-ending : goal.invariant-loop-ending
invariant-loop-ending l = (l.items ≤ 65535) × Leads l.bytes l.items l.rest

abbrev pub decreases-loop-ending : goal.decreases-loop-ending
decreases-loop-ending l = 65536 - l.items
