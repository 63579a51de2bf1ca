use Rattle.std.proofs.Common.{◌∙◌, sym, ap, Some, ◌&&◌, nat_eq}
use Rattle.ld_tree_read.specs.Cursor.{left}
use Rattle.ld_tree_read.proofs.Inner.{stop_in}
use Rattle.ld_tree_read.proofs.escape.eat_hex.Goals as goal

pub returns-in_default-clause-stops : goal.returns-in_default-clause-stops
returns-in_default-clause-stops c = λ i takes n fs.
    let d = c.args.cursor.now in
    stop_in d.at n fs i (left d) (takes.between n) (λ b r e. (ap (λ p. p && nat_eq b 34) takes.inner, takes.only b (c.in_default.ensures.none b r e))) ∙ ap Some (sym c.no_text.ensures)
