use Rattle.std.proofs.Common.{◌∙◌, refl, ap, ◌+◌, ◌-◌, ◌^◌, min, length, arith}
use Rattle.ld_tree_read.specs.Digits.{token}
use Rattle.ld_tree_read.proofs.Scaled.{scaled_of, no_digits}
use Rattle.ld_tree_read.proofs.decimal.scaled_num.Goals as goal

pub returns : goal.returns
returns c =
    let n = c.args.number.now in
    let t = token n in
    let digits = c.with_digits-digits.result in
    let stands = c.with_digits-digits.ensures.stands n.whole.now (c.with_digits.ensures.stands _ no_digits) in
    c.scaled.ensures _ refl
    (scaled_of t digits.significant digits.zeros c.exponent_of-exponent.result c.saturating_add-zeros.result c.saturating_add-places.result stands
    (omega (arith, c.with_digits-digits.ensures.few, c.with_digits.ensures.few, c.requires.room)) (omega (arith, c.requires.room)) c.exponent_of-exponent.ensures
    (c.saturating_add-zeros.ensures ∙ ap (λ u. min (digits.zeros + u) (2 ^ 64 - 1)) c.powers-up.ensures.up)
    (c.saturating_add-places.ensures ∙ ap (λ d. min (d + length n.fraction.now) (2 ^ 64 - 1)) c.powers-up.ensures.down))
