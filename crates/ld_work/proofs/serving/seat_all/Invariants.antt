use Rattle.std.proofs.Common.{◌≡◌, [], All, map}
use Rattle.ld_work.specs.Shifts.{IsReady}
use Rattle.ld_work.proofs.serving.seat_all.Given as goal

abbrev pub invariant-loop-post : goal.invariant-loop-post
invariant-loop-post g l =
    (l.first.book.lock ≡ l.hall.book)
    × (l.first.library.lock ≡ l.hall.library)
    × (l.first.book.front ≡ [])
    × All (λ j. IsReady l.hall.book l.hall.library j) l.jobs.items
    × (map (λ j. j.post) l.jobs.items ≡ l.yielded)
