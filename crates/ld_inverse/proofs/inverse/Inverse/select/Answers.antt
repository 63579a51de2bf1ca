use Rattle.std.proofs.Common.{◌≤◌, length, map, refl, sym, ◌∙◌, ap, arith}
use Rattle.std.proofs.Math.ListN.{drop_of_length-le}
use Rattle.ld_rec.specs.declared.def.Containers.{Containers}
use Rattle.ld_rec.specs.Slots.{slot, slots}
use Rattle.ld_rec.specs.Selection.{first_to_offer, first_some}
use Rattle.ld_inverse.proofs.Under.{under}
use Rattle.ld_inverse.proofs.Chains.{found_here, not_here}
use Rattle.ld_inverse.proofs.inverse.Inverse.select.Goals as goal

pub loop-tried-init : goal.loop-tried-init
loop-tried-init c = λ context h. refl

pub loop-tried-preserved : goal.loop-tried-preserved
loop-tried-preserved c = λ context h. c.loop-tried.invariant context h
    ∙ not_here (λ (t : Containers). first_some (λ value. first_to_offer (slots context) (slot c.args.iri.now t c.args.kind value)) (map (λ p. p.now) c.args.preferred.now)) c.args.containers.now c.loop-tried.tried-index _
    c.first_preferred-found.result c.loop-tried-test.true (sym c.is_some.ensures ∙ c.if-is_some.false) (c.first_preferred-found.ensures (slots context) (under c.args.iri.now (slots context) _ _ _ c.as_slice.ensures.value h.slots_grouped c.offers_under-offers.ensures))

pub returns-then-is_some : goal.returns-then-is_some
returns-then-is_some c = λ context h. found_here (λ (t : Containers). first_some (λ value. first_to_offer (slots context) (slot c.args.iri.now t c.args.kind value)) (map (λ p. p.now) c.args.preferred.now)) c.args.containers.now c.loop-tried.tried-index _
    c.first_preferred-found.result c.loop-tried-test.true (sym c.is_some.ensures ∙ c.if-is_some.true) (c.first_preferred-found.ensures (slots context) (under c.args.iri.now (slots context) _ _ _ c.as_slice.ensures.value h.slots_grouped c.offers_under-offers.ensures))
    ∙ sym (c.loop-tried.invariant context h)

pub returns : goal.returns
returns c = λ context h.
    let past : length c.args.containers.now ≤ c.loop-tried.tried-index = omega arith in
    let f = λ (t : Containers). first_some (λ value. first_to_offer (slots context) (slot c.args.iri.now t c.args.kind value)) (map (λ p. p.now) c.args.preferred.now) in
    sym (c.loop-tried.invariant context h ∙ ap (first_some f) (drop_of_length-le c.args.containers.now past))
