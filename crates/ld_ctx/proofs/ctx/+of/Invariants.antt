use Rattle.std.proofs.Common.{◌+◌, ◌*◌, length}
use Rattle.ld_ctx.proofs.ctx.+of.Given as goal

abbrev pub decreases-Ctx::of : goal.decreases-Ctx::of
decreases-Ctx::of g l = 2 * length (g.V.View.flat l.view.now).before + 1

abbrev pub decreases-previous_of : goal.decreases-previous_of
decreases-previous_of g l = 2 * length (g.V.View.flat l.view.now).before
