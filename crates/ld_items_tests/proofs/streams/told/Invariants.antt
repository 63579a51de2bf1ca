use Rattle.std.proofs.Common.{◌≤◌}
use Rattle.ld_items_tests.proofs.streams.told.Given as goal

abbrev pub invariant-loop : goal.invariant-loop
invariant-loop l = l.arrivals.items ≤ l.counter
