use Rattle.std.proofs.Common.{◌≡◌, ℕ, ◌%◌, []}
use Rattle.ld_turn.specs.declared.rule.Stage.TheVariants.{Waiting}
use Rattle.ld_turn.specs.Views.{known_of, Sits}
use Rattle.ld_turn.proofs.lock.TurnLock.take.Given as goal

abbrev pub invariant-loop : goal.invariant-loop
invariant-loop g l = (known_of l.seat.table_id l.seat.me.0 ≡ l.fn.seat) × (l.seat.me.1 ≡ []) × ((t : ℕ) × (l.ticket ≡ t % 18446744073709551616) × (l.seat.me.0.stage ≡ Waiting t)) × Sits l.number l.seat.me.0
