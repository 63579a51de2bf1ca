use Rattle.ld_rec.specs.Slots.{slots}
use Rattle.ld_inverse.proofs.Under.{maps_is}
use Rattle.ld_inverse.proofs.inverse.Inverse.maps.Goals as goal

pub returns : goal.returns
returns c = λ context h. maps_is c.args.iri.now (slots context) _ _ _ c.as_slice.ensures.value h.slots_grouped c.offers_under.ensures
