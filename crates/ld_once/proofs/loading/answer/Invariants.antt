use Rattle.std.proofs.Common.{◌≡◌, ◌≤◌, ◌-◌, length}
use Rattle.ld_ctx.specs.Stocks.{shared_entries}
use Rattle.ld_once.specs.Loading.{answering, held_limit}
use Rattle.ld_once.specs.Underway.{IsUnderway}
use Rattle.ld_once.proofs.loading.answer.Given as goal

abbrev pub invariant-loop-tower : goal.invariant-loop-tower
invariant-loop-tower g l =
    IsUnderway (answering l.op l.envelope) (g.L.Loader.loading l.initial.loader) (g.L.Loader.loading l.loader) (shared_entries l.documents.items)
    × (l.tower ≡ length l.documents.items) × (length l.documents.items ≤ held_limit)

abbrev pub decreases-loop-tower : goal.decreases-loop-tower
decreases-loop-tower g l = held_limit - length l.documents.items
