use Rattle.std.proofs.Common.{◌∙◌, refl}
use Rattle.ld_tree_read.specs.Cursor.{left}
use Rattle.ld_tree_read.specs.State.{zero_digit, point, fraction}
use Rattle.ld_tree_read.proofs.Exits.{if_ok, if_err}
use Rattle.ld_tree_read.proofs.Tokens.{on, still, point_next, point_digits, no_frac}
use Rattle.ld_tree_read.proofs.number.read_frac.Goals as goal

pub returns-then-not-eat-clause-leads : goal.returns-then-not-eat-clause-leads
returns-then-not-eat-clause-leads c = λ fs.
    no_frac c.args.cursor.now.at fs (left c.args.cursor.now) c.requires (c.if-not-eat.ensures.other refl) ∙ still c.args.cursor.now c.eat.new.self fs fraction (c.if-not-eat.ensures.unmoved refl) (c.if-not-eat.ensures.still refl)

pub returns-clause-leads : goal.returns-clause-leads
returns-clause-leads c =
    let start = c.args.cursor.now in
    let moved = c.eat.new.self in
    if_ok c.read_digits.result
    (λ ds h fs. on start moved fs fs zero_digit point 46 (c.if-not-eat.ensures.eaten refl) (c.if-not-eat.ensures.at refl) refl (point_next fs) ∙ h point fraction (point_digits (left moved)) fs)
    c.read_digits.ensures.leads

pub returns-clause-stops : goal.returns-clause-stops
returns-clause-stops c =
    let start = c.args.cursor.now in
    let moved = c.eat.new.self in
    if_err c.read_digits.result
    (λ e h fs. on start moved fs fs zero_digit point 46 (c.if-not-eat.ensures.eaten refl) (c.if-not-eat.ensures.at refl) refl (point_next fs) ∙ h point fraction (point_digits (left moved)) fs)
    c.read_digits.ensures.stops
