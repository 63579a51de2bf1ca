use Rattle.std.proofs.Common.{◌≡◌}
use Rattle.ld_visit.specs.Visits.{IsFree}
use Rattle.ld_work.specs.Shifts.{IsUnderway}
use Rattle.ld_work.proofs.worker.work.Given as goal

abbrev pub invariant-loop : goal.invariant-loop
invariant-loop g l =
    (l.seats.book.lock ≡ l.fn.job.seats.book.lock)
    × (l.seats.library ≡ l.fn.job.seats.library)
    × IsFree l.seats.book
    × IsUnderway g.D.Door.doorway g.L.Loader.loading l.every l.seats.book.front l.fn.job.post l.post l.log
