use Rattle.std.proofs.Common.{◌≡◌, ◌*◌, ◌^◌, ◌<◌, ap, subst, ◌∙◌, arith}
use Rattle.ld_tree_read.proofs.Powers.{over, times_ten}
use Rattle.ld_tree_read.proofs.decimal.shifted.Goals as goal

pub loop-init : goal.loop-init
loop-init c = record { is = omega arith; fits = c.ranges.value.fits }

pub returns-in_err-shifted : goal.returns-in_err-shifted
returns-in_err-shifted c = rw c.from_residual.ensures (over c.loop.shifted c.args.value c.loop.counter c.args.zeros c.loop.invariant.is c.loop-test.true c.in_err-shifted.ensures)

pub loop-preserved : goal.loop-preserved
loop-preserved c = let e = c.in_ok-shifted.ensures in let t = times_ten c.args.value c.loop.counter in record { is = omega (arith, e.1, t, c.loop.invariant.is); fits = omega (arith, e.0, e.1) }

pub returns : goal.returns
returns c =
    let n : c.loop.counter ≡ c.args.zeros = omega (arith, c.loop-test.false, c.loop.auto.counter-end) in
    let e = c.loop.invariant.is ∙ ap (λ n. c.args.value * 10 ^ n) n in
    (subst (λ x. x < 2 ^ 64) e (c.loop.invariant.fits), e)
