use Rattle.std.proofs.Common.{rules, []}
use Rattle.std.proofs.lemmas.List.Sorted.{answers_always, ranks_by}
use Rattle.ld_inverse.proofs.Grouping.{grouped_from_sort}
use Rattle.std.specs.Cmp.Lexicographic.{nat_list_cmp_total}
use Rattle.ld_rec.specs.Prefixes.{Prefix}
use Rattle.ld_inverse.proofs.prefixes.sort_prefixes.Goals as goal

pub returns : goal.returns
returns c =
    let order = ranks_by nat_list_cmp_total (λ (o : Prefix). o.0) in
    grouped_from_sort nat_list_cmp_total [] _ _
    (c.in_ok-sort_by.ensures.sorted _ order (answers_always _ _ _ (λ f a r g h. search rules)))
    (c.sort_by.ensures.stable _ order (answers_always _ _ _ (λ f a r g h. search rules)))
