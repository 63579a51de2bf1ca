use Rattle.std.proofs.Common.{ℕ, ◌≤◌, List, Bor, length, sym, ◌∙◌, ap, arith}
use Rattle.std.proofs.Math.ListN.{drop_of_length-le}
use Rattle.ld_rec.specs.Slots.{slot}
use Rattle.ld_rec.specs.Selection.{first_to_offer, first_some}
use Rattle.ld_inverse.proofs.Chains.{first_some-map, found_here, not_here}
use Rattle.ld_inverse.proofs.inverse.first_preferred.Goals as goal

pub loop-value-init : goal.loop-value-init
loop-value-init c = λ all h. first_some-map (λ value. first_to_offer all (slot c.args.iri.now c.args.containers c.args.kind value)) (λ (p : Bor (List ℕ)). p.now) c.args.preferred.now

pub loop-value-preserved : goal.loop-value-preserved
loop-value-preserved c = λ all h. c.loop-value.invariant all h
    ∙ not_here (λ (p : Bor (List ℕ)). first_to_offer all (slot c.args.iri.now c.args.containers c.args.kind p.now)) c.args.preferred.now c.loop-value.value-index _
    c.first_to_offer-found.result c.loop-value-test.true (sym c.is_some.ensures ∙ c.if-is_some.false) (c.first_to_offer-found.ensures all h)

pub returns-then-is_some : goal.returns-then-is_some
returns-then-is_some c = λ all h. found_here (λ (p : Bor (List ℕ)). first_to_offer all (slot c.args.iri.now c.args.containers c.args.kind p.now)) c.args.preferred.now c.loop-value.value-index _
    c.first_to_offer-found.result c.loop-value-test.true (sym c.is_some.ensures ∙ c.if-is_some.true) (c.first_to_offer-found.ensures all h)
    ∙ sym (c.loop-value.invariant all h)

pub returns : goal.returns
returns c = λ all h.
    let past : length c.args.preferred.now ≤ c.loop-value.value-index = omega arith in
    let f = λ (p : Bor (List ℕ)). first_to_offer all (slot c.args.iri.now c.args.containers c.args.kind p.now) in
    sym (c.loop-value.invariant all h ∙ ap (first_some f) (drop_of_length-le c.args.preferred.now past))
