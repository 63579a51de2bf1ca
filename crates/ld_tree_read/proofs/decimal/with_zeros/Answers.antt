use Rattle.std.proofs.Common.{sym}
use Rattle.ld_tree_read.proofs.Powers.{held_none}
use Rattle.ld_tree_read.proofs.Scaled.{many_zeros, many_digits}
use Rattle.ld_tree_read.proofs.decimal.with_zeros.Goals as goal

pub returns-then-zeros-ge20 : goal.returns-then-zeros-ge20
returns-then-zeros-ge20 c = λ top exact held some e. sym (many_zeros c.args.negative top exact c.args.zeros some e c.if-zeros-ge20.true)

pub returns-in_default : goal.returns-in_default
returns-in_default c = λ top exact held some e. sym (many_digits c.args.negative top exact (held_none c.in_default.is held))
