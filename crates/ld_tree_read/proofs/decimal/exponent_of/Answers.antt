use Rattle.std.proofs.Common.{take, get_or, ap, ◌∙◌, arith}
use Rattle.std.proofs.lemmas.List.{take_more}
use Rattle.ld_tree.specs.Numbers.{value_of}
use Rattle.ld_tree_read.proofs.Powers.{value_snoc}
use Rattle.ld_tree_read.proofs.decimal.exponent_of.Goals as goal

pub loop-byte-preserved : goal.loop-byte-preserved
loop-byte-preserved c =
    let i = c.loop-byte.byte-index in
    let ds = c.args.digits.now in
    let more = ap value_of (take_more ds i 0 c.loop-byte-test.true) ∙ value_snoc 0 (take i ds) (get_or ds i 0) in
    omega (arith, more, c.saturating_add-value.ensures, c.saturating_mul.ensures, c.loop-byte.invariant)
