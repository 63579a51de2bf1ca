use Rattle.std.proofs.Common.{◌≡◌, All}
use Rattle.ld_turn_tests.proofs.threads.seated.Given as goal

abbrev pub invariant-loop : goal.invariant-loop
invariant-loop l = (l.first.lock ≡ l.fn.lock) × All (λ s. s.lock ≡ l.fn.lock) l.seats.items
