use Rattle.std.proofs.Common.{◌≡◌, None}
use Rattle.ld_ctx.specs.Flat.{flat}
use Rattle.ld_inverse_bench.proofs.work.context.Given as goal

abbrev pub invariant-loop-number : goal.invariant-loop-number
invariant-loop-number l = (flat l.ctx).own.base ≡ None
