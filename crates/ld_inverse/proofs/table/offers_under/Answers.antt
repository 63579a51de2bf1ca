use Rattle.std.proofs.Common.{rules, []}
use Rattle.std.specs.Ordering.{is_le, is_lt}
use Rattle.std.proofs.lemmas.List.Sorted.{IsPartitionPoint-from_clause}
use Rattle.ld_inverse.proofs.Grouping.{found_group, lower_parted, slice_from, upper_parted}
use Rattle.ld_inverse.proofs.Under.{iri_cmp, iri_total, up_by_iri}
use Rattle.ld_rec.specs.declared.slot.Kind.TheVariants.{Any}
use Rattle.ld_rec.specs.Records.{no_containers}
use Rattle.ld_rec.specs.Slots.{slot}
use Rattle.ld_inverse.proofs.table.offers_under.Goals as goal

pub returns : goal.returns
returns c = λ up.
    let key = slot c.args.iri.now no_containers Any [] in
    let by_iri = up_by_iri c.args.offers.now up in
    let whole = slice_from c.args.offers.now c.partition_point-start.result in
    let lower = IsPartitionPoint-from_clause (λ o. is_lt (iri_cmp o.0 key)) _ _ c.partition_point-start.ensures.partitioned
    (lower_parted iri_total key _ by_iri) (λ a r q k. search rules) in
    let upper = IsPartitionPoint-from_clause (λ o. is_le (iri_cmp o.0 key)) _ _ c.partition_point-count.ensures.partitioned
    (upper_parted iri_total key _ _ _ whole by_iri) (λ a r q k. search rules) in
    found_group iri_total key _ _ _ _ whole c.partition_point-start.ensures.bound c.partition_point-count.ensures.bound lower upper
