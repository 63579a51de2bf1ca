use Rattle.std.proofs.Common.{◌≡◌, map, take}
use Rattle.std.specs.List.{flat_map}
use Rattle.ld_rec.specs.Records.{def_of}
use Rattle.ld_rec.specs.Slots.{offered}
use Rattle.ld_inverse.proofs.offers.slots.Given as goal

abbrev pub invariant-loop-term : goal.invariant-loop-term
invariant-loop-term g l = l.slots.items ≡ flat_map (λ term. offered (g.V.View.flat l.ctx).own.language term (def_of (g.V.View.flat l.ctx) term)) (map (λ t. t.now) (take l.term-index l.terms))
