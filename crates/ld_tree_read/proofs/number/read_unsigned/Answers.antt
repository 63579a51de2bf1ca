use Rattle.std.proofs.Common.{◌∙◌, sym, ap, Some, arith}
use Rattle.ld_tree_read.specs.Cursor.{left}
use Rattle.ld_tree_read.proofs.Tokens.{bad_end}
use Rattle.ld_tree_read.proofs.number.read_unsigned.Goals as goal

pub returns-then-not-ends_number-clause-stops : goal.returns-then-not-ends_number-clause-stops
returns-then-not-ends_number-clause-stops c = λ fs.
    let end = c.read_exp.new.cursor in
    c.in_ok-whole.ensures.leads fs ∙ c.in_ok-fraction.ensures.leads fs ∙ c.in_ok-lowers.ensures.leads fs
    ∙ bad_end end.at fs (left end) (sym c.if-not-ends_number.ensures) ∙ ap Some (sym c.no_text.ensures)

pub returns-clause-small : goal.returns-clause-small
returns-clause-small c = record { whole = c.in_ok-whole.ensures.each; fraction = c.in_ok-fraction.ensures.each; exponent = c.in_ok-lowers.ensures.each; room = let end = c.read_frac.new.cursor in omega (arith, c.in_ok-whole.ensures.count, c.in_ok-fraction.ensures.count, end.within, end.short) }
