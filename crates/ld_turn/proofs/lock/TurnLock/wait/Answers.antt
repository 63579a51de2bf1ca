use Rattle.std.proofs.Common.{rules}
use Rattle.ld_turn.proofs.Keeping.{rings}
use Rattle.ld_turn.proofs.lock.TurnLock.wait.Goals as goal

pub store-requires : goal.store-requires
store-requires g c = (search rules, search rules, rings g.V.Told.list g.V.Told.seat_of _ _ _ _ 1 (λ _. 1) c.requires.bell.0)
