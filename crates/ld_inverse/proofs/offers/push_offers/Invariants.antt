use Rattle.std.proofs.Common.{◌≡◌, ◌++◌, List, ℕ, map, take, Bor}
use Rattle.ld_rec.specs.declared.slot.Kind.{Kind}
use Rattle.ld_rec.specs.Slots.{slot}
use Rattle.ld_inverse.proofs.offers.push_offers.Given as goal

abbrev pub invariant-loop-kind : goal.invariant-loop-kind
invariant-loop-kind l = l.slots.items ≡ l.fn.slots.items ++ map (λ (o : Kind × List ℕ). (slot l.iri l.containers o.0 o.1, l.term)) (map (λ (o : Kind × Bor (List ℕ)). (o.0, o.1.now)) (take l.kind-index l.offers))
