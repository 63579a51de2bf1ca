use Rattle.std.proofs.Common.{◌≡◌, ◌<◌, ◌++◌, length, All}
use Rattle.ld_turn.specs.Views.{StandsFor}
use Rattle.ld_turn.proofs.lock.TurnLock.join_all.Given as goal

abbrev pub invariant-loop-next : goal.invariant-loop-next
invariant-loop-next g l = (done : _) × (l.fn.seats.items ≡ l.seats.items ++ done) × All (λ s. (s.lock ≡ l.fn.self) × (s.made ≡ length l.fn.seats.items)) l.seats.items × StandsFor l.fn.self (length l.fn.seats.items) done l.all.table_id l.all.me × (0 < length done)

abbrev pub decreases-loop-next : goal.decreases-loop-next
decreases-loop-next g l = length l.seats.items
