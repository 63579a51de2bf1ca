use Rattle.std.proofs.Common.{◌≡◌, ℕ, ◌<◌, ◌≤◌, length, get_or}
use Rattle.std.specs.List.{AllZip}
use Rattle.ld_turn.specs.Known.{IsRecounted}
use Rattle.ld_turn.proofs.lock.TurnLock.count_all.Given as goal

abbrev pub invariant-loop-i : goal.invariant-loop-i
invariant-loop-i g l = (l.i ≤ l.given) × (l.given ≡ length l.fn.seats.items) × AllZip IsRecounted l.fn.seats.items l.seats.items × ((k : ℕ) (d : _) → k < l.i → (get_or l.seats.items k d).made ≡ l.given)
