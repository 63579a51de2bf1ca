use Rattle.std.proofs.Common.{◌≡◌, List, ℕ, map, refl, sym, ap, ◌∙◌, Bor}
use Rattle.std.specs.Option.{option_copied}
use Rattle.ld_rec.specs.Slots.{offered, offered_under, slot}
use Rattle.ld_rec.specs.declared.slot.Kind.{Kind}
use Rattle.ld_inverse.proofs.offers.push_offered.Goals as goal

pub returns : goal.returns
returns c =
    let whole : offered (option_copied c.args.default) c.args.term.now (option_copied c.args.def)
    ≡ map (λ (o : Kind × List ℕ). (slot c.in-Some-mapping_of.iri.now c.in-Some.def.now.containers o.0 o.1, c.args.term.now)) (map (λ (o : Kind × Bor (List ℕ)). (o.0, o.1.now)) c.as_slice.result.now) =
    ap (λ d. offered (option_copied c.args.default) c.args.term.now (option_copied d)) c.in-Some.is
    ∙ ap (offered_under (option_copied c.args.default) c.args.term.now c.in-Some.def.now) (sym c.mapping_of.ensures ∙ ap option_copied c.in-Some-mapping_of.is)
    ∙ rw (c.as_slice.ensures.value, c.in_ok-offers.ensures) refl in
    rw whole c.push_offers.ensures
