use Rattle.std.proofs.Common.{◌∙◌, sym}
use Rattle.ld_tree_read.specs.Digits.{token}
use Rattle.ld_tree_read.proofs.Numbers.{no_bytes, plain_is}
use Rattle.ld_tree_read.proofs.decimal.num_of.Goals as goal

pub returns-then-is_empty-2 : goal.returns-then-is_empty-2
returns-then-is_empty-2 c =
    let t = token c.args.number.now in
    c.plain_num.ensures ∙ sym (plain_is t (no_bytes t.fraction c.if-is_empty.ensures) (no_bytes t.exponent c.if-is_empty-2.ensures))
