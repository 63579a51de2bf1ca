use Rattle.std.proofs.Common.{◌≡◌, map, drop}
use Rattle.ld_inverse.specs.Orders.{mark}
use Rattle.ld_rec.specs.Slots.{shortest_first}
use Rattle.ld_inverse.proofs.terms.ordered.Given as goal

-- the terms from the place on
abbrev pub invariant-loop-place : goal.invariant-loop-place
invariant-loop-place l = map (λ t. (t.0, t.1.now)) l.sorted.keys ≡ map mark (shortest_first (drop l.place (map (λ t. t.now) l.terms)))
