use Rattle.std.proofs.Common.{◌≡◌, List, map, drop}
use Rattle.ld_inverse.specs.Under.{IsGroupedUnder}
use Rattle.ld_rec.specs.Slots.{slot, Offer}
use Rattle.ld_rec.specs.Selection.{first_to_offer, first_some}
use Rattle.ld_inverse.proofs.inverse.first_preferred.Given as goal

-- what is left to try gives what the whole gives
abbrev pub invariant-loop-value : goal.invariant-loop-value
invariant-loop-value l = (all : List Offer) → IsGroupedUnder l.iri all l.offers
    → first_some (λ value. first_to_offer all (slot l.iri l.containers l.kind value)) (map (λ p. p.now) l.preferred)
    ≡ first_some (λ p. first_to_offer all (slot l.iri l.containers l.kind p.now)) (drop l.value-index l.preferred)
