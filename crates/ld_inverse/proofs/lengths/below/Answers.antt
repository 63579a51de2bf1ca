use Rattle.std.proofs.Common.{◌≡◌, ◌<◌, ◌≤◌, Bool, true, false, get_or, take, nat_lt, rules, arith, sym, ◌∙◌, refl, subst, ltb-true, ltb-false}
use Rattle.std.specs.List.{Contains}
use Rattle.std.proofs.lemmas.List.{get_or-take, length-take}
use Rattle.std.proofs.lemmas.List.Sorted.{IsPartitionPoint-from_clause, IsPartitionedBy-ltb}
use Rattle.ld_inverse.proofs.lengths.below.Goals as goal

pub returns-clause-below : goal.returns-clause-below
returns-clause-below c = λ k d h.
    let point = IsPartitionPoint-from_clause (λ n. nat_lt n c.args.limit) _ _ c.partition_point-count.ensures.partitioned (IsPartitionedBy-ltb (λ n. n) _ c.args.limit c.requires) (λ a r q k. search rules) in
    let within : k < c.partition_point-count.result = omega (arith, h, length-take c.partition_point-count.result c.args.lengths.now) in
    let passes : get_or c.args.lengths.now k d < c.args.limit = ltb-true _ _ (point.0 k d (omega arith) within) in
    subst (λ n. n < c.args.limit) (sym (get_or-take c.partition_point-count.result c.args.lengths.now k d within)) passes

pub returns-clause-each : goal.returns-clause-each
returns-clause-each c = λ n h at.
    let point = IsPartitionPoint-from_clause (λ n. nat_lt n c.args.limit) _ _ c.partition_point-count.ensures.partitioned (IsPartitionedBy-ltb (λ n. n) _ c.args.limit c.requires) (λ a r q k. search rules) in
    let count = c.partition_point-count.result in
    let found : (b : Bool) → nat_lt at.0 count ≡ b → Contains (take count c.args.lengths.now) n = λ b. elim b as (λ b. nat_lt at.0 count ≡ b → Contains (take count c.args.lengths.now) n) [
      | true ↦ λ e. let within : at.0 < count = ltb-true _ _ e in
          (at.0, omega (arith, within, at.1, length-take count c.args.lengths.now, c.partition_point-count.ensures.bound), get_or-take count c.args.lengths.now at.0 n within ∙ at.2)
      | false ↦ λ e. let high : c.args.limit ≤ get_or c.args.lengths.now at.0 n = ltb-false _ _ (point.1 at.0 n (ltb-false _ _ e) at.1) in
          absurd (omega (arith, high, at.2, h))
    ] in
    found (nat_lt at.0 count) refl
