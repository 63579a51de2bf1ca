use Rattle.std.proofs.Common.{◌≡◌}
use Rattle.ld_turn_bench.proofs.by_lock.take_turns.Given as goal

abbrev pub invariant-loop : goal.invariant-loop
invariant-loop g l = l.seat.lock ≡ l.fn.seat.lock
