use Rattle.std.proofs.Common.{◌≡◌, ◌-◌, map, take, length}
use Rattle.std.specs.Map.{keys_of}
use Rattle.ld_inverse.proofs.terms.in_order.Given as goal

abbrev pub invariant-loop-term : goal.invariant-loop-term
invariant-loop-term g l = map (λ t. t.now) l.terms.items ≡ take l.place (keys_of (g.V.View.flat l.ctx).own.terms.0)

abbrev pub decreases-loop-term : goal.decreases-loop-term
decreases-loop-term g l = length (keys_of (g.V.View.flat l.ctx).own.terms.0) - l.place
