use Rattle.std.proofs.Common.{rules, []}
use Rattle.std.proofs.lemmas.List.Sorted.{answers_always, ranks_by}
use Rattle.ld_inverse.proofs.Grouping.{grouped_from_sort}
use Rattle.ld_inverse.proofs.Totals.{slot_total}
use Rattle.ld_rec.specs.Slots.{Offer}
use Rattle.ld_inverse.proofs.table.sort_offers.Goals as goal

pub returns : goal.returns
returns c =
    let order = ranks_by slot_total (λ (o : Offer). o.0) in
    grouped_from_sort slot_total [] _ _
    (c.in_ok-sort_by.ensures.sorted _ order (answers_always _ _ _ (λ f a r g h. search rules)))
    (c.sort_by.ensures.stable _ order (answers_always _ _ _ (λ f a r g h. search rules)))
