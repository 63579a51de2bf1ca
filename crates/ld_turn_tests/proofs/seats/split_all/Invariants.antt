use Rattle.std.proofs.Common.{◌≡◌}
use Rattle.ld_turn_tests.proofs.seats.split_all.Given as goal

abbrev pub invariant-loop-made : goal.invariant-loop-made
invariant-loop-made l = l.seat.lock ≡ l.fn.lock
