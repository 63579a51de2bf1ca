use Rattle.std.proofs.Common.{◌≡◌, ◌-◌, map, take, length}
use Rattle.ld_ctx.specs.Flat.{flat}
use Rattle.ld_rec.specs.Records.{is_protected}
use Rattle.ld_context.proofs.null.protections.Given as goal

abbrev pub invariant-loop-protected : goal.invariant-loop-protected
invariant-loop-protected l = l.all.items ≡ take (length l.all.items) (map is_protected (flat l.ctx).own.terms.0)

abbrev pub decreases-loop-protected : goal.decreases-loop-protected
decreases-loop-protected l = length (map is_protected (flat l.ctx).own.terms.0) - length l.all.items
