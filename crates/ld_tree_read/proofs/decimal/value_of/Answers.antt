use Rattle.std.proofs.Common.{◌-◌, ◌^◌, ◌≤◌, get_or, subst}
use Rattle.ld_tree_read.proofs.Numbers.{too_large, over_product, over_sum}
use Rattle.ld_tree_read.proofs.decimal.value_of.Goals as goal

pub returns-in_err-checked_mul-clause-none : goal.returns-in_err-checked_mul-clause-none
returns-in_err-checked_mul-clause-none c =
    let i = c.loop-byte.byte-index in
    let ds = c.args.digits.now in
    let v = c.loop-byte.value in
    rw c.from_residual.ensures (subst (λ x. 2 ^ 64 ≤ x) c.loop-byte.invariant (too_large v i ds c.loop-byte-test.true (over_product v (get_or ds i 0 - 48) c.in_err-checked_mul.ensures)))

pub returns-in_err-value-clause-none : goal.returns-in_err-value-clause-none
returns-in_err-value-clause-none c =
    let i = c.loop-byte.byte-index in
    let ds = c.args.digits.now in
    let v = c.loop-byte.value in
    rw c.from_residual-in_err-value.ensures
    (subst (λ x. 2 ^ 64 ≤ x) c.loop-byte.invariant (too_large v i ds c.loop-byte-test.true (over_sum v c.in_ok-checked_mul.field-0 (get_or ds i 0 - 48) c.in_ok-checked_mul.ensures.1 c.in_err-value.ensures)))
