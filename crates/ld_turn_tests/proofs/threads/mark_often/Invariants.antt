use Rattle.std.proofs.Common.{◌≡◌}
use Rattle.ld_turn_tests.proofs.threads.mark_often.Given as goal

abbrev pub invariant-loop-count : goal.invariant-loop-count
invariant-loop-count g l = l.seat.lock ≡ l.fn.seat.lock
