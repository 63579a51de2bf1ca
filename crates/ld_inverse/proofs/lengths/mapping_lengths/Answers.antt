use Rattle.std.proofs.Common.{◌≡◌, ◌<◌, ◌≤◌, ℕ, List, true, false, length, map, get_or, nat_lt, sym, subst, ap, ◌∙◌, refl, arith, ltb-true, ltb-false}
use Rattle.std.specs.List.{Contains}
use Rattle.std.specs.List.Sorted.{IsNonDecreasing, IsStrictlyIncreasing}
use Rattle.std.proofs.lemmas.List.{get_or-map, length-map, take_all}
use Rattle.std.proofs.lemmas.List.Filters.{dedup_is}
use Rattle.std.proofs.lemmas.List.Kept.{AllPairs-from_increasing, Contains-dedup_nat}
use Rattle.std.proofs.lemmas.List.Sorted.{Contains-permutation}
use Rattle.std.proofs.lemmas.Map.Keys.{IsStrictlyIncreasing-dedup}
use Rattle.ld_rec.specs.Prefixes.{Prefix}
use Rattle.ld_inverse.proofs.lengths.mapping_lengths.Goals as goal

ascending : (xs : List ℕ) → IsStrictlyIncreasing xs → IsNonDecreasing xs
ascending xs up i j d h k =
    elim (nat_lt i j) as (λ b. nat_lt i j ≡ b → get_or xs i d ≤ get_or xs j d) [
      | true ↦ λ e. let below : get_or xs i d < get_or xs j d = AllPairs-from_increasing xs up i j d (ltb-true i j e) k in omega (arith, below)
      | false ↦ λ e. let same : i ≡ j = omega (arith, h, ltb-false i j e) in subst (λ n. get_or xs i d ≤ get_or xs n d) same (omega arith)
    ] refl

has_length : (prefixes : List Prefix) (k : ℕ) (d : Prefix) → k < length prefixes → Contains (map (λ (p : Prefix). length p.0) prefixes) (length (get_or prefixes k d).0)
has_length prefixes k d h = (k, subst (λ n. k < n) (sym (length-map prefixes (λ (p : Prefix). length p.0))) h, get_or-map (λ (p : Prefix). length p.0) prefixes k d _ h)

pub returns-clause-ascending : goal.returns-clause-ascending
returns-clause-ascending c =
    let is = dedup_is _ _ _ c.dedup.ensures.filtered in
    ascending _ (rw is (IsStrictlyIncreasing-dedup _ c.sort_unstable.ensures.sorted))

pub returns-clause-each : goal.returns-clause-each
returns-clause-each c = λ k d h.
    let is = dedup_is _ _ _ c.dedup.ensures.filtered in
    let whole : c.loop-mapping.lengths.items ≡ map (λ (p : Prefix). length p.0) c.args.prefixes.now =
    c.loop-mapping.invariant ∙ ap (map (λ (p : Prefix). length p.0)) (take_all c.loop-mapping.mapping-index c.args.prefixes.now (omega arith)) in
    let gathered = subst (λ ns. Contains ns (length (get_or c.args.prefixes.now k d).0)) (sym whole) (has_length c.args.prefixes.now k d h) in
    rw is (Contains-dedup_nat _ _ (Contains-permutation _ _ _ c.sort_unstable.ensures.permutation gathered))
