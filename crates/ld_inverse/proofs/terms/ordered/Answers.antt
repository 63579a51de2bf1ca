use Rattle.std.proofs.Common.{◌≡◌, ◌-◌, ◌<◌, suc, length, arith}
use Rattle.ld_inverse.proofs.Sorting.{get-map, one_more_term}
use Rattle.ld_inverse.proofs.terms.ordered.Goals as goal

pub loop-place-preserved : goal.loop-place-preserved
loop-place-preserved c =
    let down : suc (c.loop-place.place - 1) ≡ c.loop-place.place = omega arith in
    let within : c.loop-place.place - 1 < length c.args.terms.now = omega arith in
    one_more_term c.loop-place.sorted.keys _ _ _ _ _ down c.in_ok-insert.ensures.keys
    (get-map c.args.terms.now (c.loop-place.place - 1) _ within) c.characters.ensures c.loop-place.invariant
