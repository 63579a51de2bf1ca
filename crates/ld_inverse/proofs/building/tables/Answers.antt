use Rattle.std.proofs.Common.{ℕ, List, Bor, length, map, ap, subst, ◌∙◌, flat_map}
use Rattle.std.specs.List.{All, Contains}
use Rattle.ld_tree.specs.Names.{name_cmp}
use Rattle.ld_rec.specs.Records.{def_of}
use Rattle.ld_inverse.specs.Groups.{IsGrouped}
use Rattle.ld_rec.specs.Prefixes.{Prefix, prefix_of}
use Rattle.ld_rec.specs.Slots.{offered}
use Rattle.ld_inverse.specs.Orders.{slot_cmp}
use Rattle.ld_inverse.proofs.building.tables.Goals as goal

pub returns-clause-inverse : goal.returns-clause-inverse
returns-clause-inverse g c =
    let ctx = g.V.View.flat c.args.ctx.now in
    let terms_are = ap (map (λ (t : Bor (List ℕ)). t.now)) c.as_slice.ensures.value ∙ c.in_ok-terms.ensures in
    let terms_are_2 = ap (map (λ (t : Bor (List ℕ)). t.now)) c.as_slice-2.ensures.value ∙ c.in_ok-terms.ensures in
    let slots_are = c.in_ok-slots.ensures ∙ ap (flat_map (λ term. offered ctx.own.language term (def_of ctx term))) terms_are in
    let prefixes_are = c.in_ok-prefixes.ensures ∙ ap (flat_map (λ term. prefix_of term (def_of ctx term))) terms_are_2 in
    record {
      slots_grouped = subst (λ all. IsGrouped slot_cmp all c.sort_offers.new.offers.items) slots_are c.in_ok-sort_offers.ensures;
      prefixes_grouped = subst (λ all. IsGrouped name_cmp all c.sort_prefixes.new.prefixes.items) prefixes_are c.in_ok-sort_prefixes.ensures;
      lengths_ascend = c.in_ok-lengths.ensures.ascending;
      lengths_cover = subst (All (λ (p : Prefix). Contains c.in_ok-lengths.lengths.items (length p.0))) (c.as_slice-3.ensures.value ∙ prefixes_are) c.in_ok-lengths.ensures.each;
    }
