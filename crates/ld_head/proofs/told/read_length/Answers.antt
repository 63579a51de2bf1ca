use Rattle.std.proofs.Common.{◌≡◌, get_or, arith}
use Rattle.std.specs.Char.{digit_value}
use Rattle.std.proofs.lemmas.Bool.Decides.{nat_tests}
use Rattle.ld_head.proofs.Numbers.{one_digit_more}
use Rattle.ld_head.proofs.told.read_length.Goals as goal

pub returns-then-length-gt-LONGEST_BODY : goal.returns-then-length-gt-LONGEST_BODY
returns-then-length-gt-LONGEST_BODY c =
    let left = c.loop-left.left.now in
    let digit : digit_value (get_or left 0 0) ≡ c.from.result = grind (arith, nat_tests) in
    omega (arith, one_digit_more c.loop-left.length left c.in-len1-up.len_at_least, c.loop-left.invariant.0, digit, c.if-length-gt-LONGEST_BODY.true)
