use Rattle.std.proofs.Common.{ap, ◌∙◌}
use Rattle.std.specs.Prelude.{slice_get}
use Rattle.std.specs.Option.{option_map}
use Rattle.ld_inverse.proofs.Totals.{found_offers}
use Rattle.ld_inverse.proofs.inverse.first_to_offer.Goals as goal

pub returns : goal.returns
returns c = λ all h.
    c.first_term.ensures
    ∙ ap (λ os. option_map (λ o. o.1) (slice_get os 0))
    (found_offers c.args.iri.now all c.args.offers.now _ c.args.containers c.args.kind c.args.value.now h c.offers_of.ensures)
