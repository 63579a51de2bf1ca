use Rattle.std.proofs.Common.{rules}
use Rattle.ld_turn.proofs.Numbering.{notes}
use Rattle.ld_turn.proofs.lock.TurnLock.note.Goals as goal

pub split_seat-requires : goal.split_seat-requires
split_seat-requires g c = (search rules, search rules, notes g.V.Told.list g.V.Told.seat_of _ _)
