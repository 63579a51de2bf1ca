use Rattle.std.proofs.Common.{◌≡◌, ◌-◌, take, length}
use Rattle.ld_ctx.proofs.ctx.terms_of_view.Given as goal

abbrev pub invariant-loop-copied : goal.invariant-loop-copied
invariant-loop-copied g l = l.copied.items ≡ take l.place (g.V.View.flat l.view).own.terms.0

abbrev pub decreases-loop-copied : goal.decreases-loop-copied
decreases-loop-copied g l = length (g.V.View.flat l.view).own.terms.0 - l.place
