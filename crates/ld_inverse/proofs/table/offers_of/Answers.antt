use Rattle.std.proofs.Common.{rules}
use Rattle.std.specs.Ordering.{is_le, is_lt}
use Rattle.std.proofs.lemmas.List.Sorted.{IsPartitionPoint-from_clause}
use Rattle.ld_inverse.proofs.Grouping.{found_group, lower_parted, slice_from, upper_parted}
use Rattle.ld_inverse.proofs.Totals.{slot_total}
use Rattle.ld_rec.specs.Slots.{slot}
use Rattle.ld_inverse.specs.Orders.{slot_cmp}
use Rattle.ld_inverse.proofs.table.offers_of.Goals as goal

pub returns : goal.returns
returns c = λ up.
    let key = slot c.args.iri.now c.args.containers c.args.kind c.args.value.now in
    let whole = slice_from c.args.offers.now c.partition_point-start.result in
    let lower = IsPartitionPoint-from_clause (λ o. is_lt (slot_cmp o.0 key)) _ _ c.partition_point-start.ensures.partitioned
    (lower_parted slot_total key _ up) (λ a r q k. search rules) in
    let upper = IsPartitionPoint-from_clause (λ o. is_le (slot_cmp o.0 key)) _ _ c.partition_point-count.ensures.partitioned
    (upper_parted slot_total key _ _ _ whole up) (λ a r q k. search rules) in
    found_group slot_total key _ _ _ _ whole c.partition_point-start.ensures.bound c.partition_point-count.ensures.bound lower upper
