use Rattle.std.proofs.Common.{◌∙◌, refl}
use Rattle.ld_tree_read.specs.Cursor.{left}
use Rattle.ld_tree_read.specs.State.{fraction, exponent, done}
use Rattle.ld_tree_read.proofs.Exits.{if_both, if_err}
use Rattle.ld_tree_read.proofs.Tokens.{on, still, small_letter, large_letter, no_exp, power_ends}
use Rattle.ld_tree_read.proofs.number.read_exp.Goals as goal

pub returns-then-eat-clause-leads : goal.returns-then-eat-clause-leads
returns-then-eat-clause-leads c =
    let end = c.read_power.new.cursor in
    if_both c.read_power.result
    (λ e h ends fs. on c.args.cursor.now c.eat.new.self fs fs fraction exponent 101 (c.if-eat.ensures.eaten refl) (c.if-eat.ensures.at refl) refl (small_letter fs) ∙ h fs ∙ power_ends end.at fs (left end) ends)
    c.read_power.ensures.leads c.read_power.ensures.ends

pub returns-then-eat-clause-stops : goal.returns-then-eat-clause-stops
returns-then-eat-clause-stops c =
    if_err c.read_power.result
    (λ e h fs. on c.args.cursor.now c.eat.new.self fs fs fraction exponent 101 (c.if-eat.ensures.eaten refl) (c.if-eat.ensures.at refl) refl (small_letter fs) ∙ h fs)
    c.read_power.ensures.stops

pub returns-then-eat-2-clause-leads : goal.returns-then-eat-2-clause-leads
returns-then-eat-2-clause-leads c =
    let end = c.read_power-then-eat-2.new.cursor in
    if_both c.read_power-then-eat-2.result
    (λ e h ends fs. still c.args.cursor.now c.eat.new.self fs fraction (c.if-eat.ensures.unmoved refl) (c.if-eat.ensures.still refl)
    ∙ on c.eat.new.self c.eat-2.new.self fs fs fraction exponent 69 (c.if-eat-2.ensures.eaten refl) (c.if-eat-2.ensures.at refl) refl (large_letter fs) ∙ h fs ∙ power_ends end.at fs (left end) ends)
    c.read_power-then-eat-2.ensures.leads c.read_power-then-eat-2.ensures.ends

pub returns-then-eat-2-clause-stops : goal.returns-then-eat-2-clause-stops
returns-then-eat-2-clause-stops c =
    if_err c.read_power-then-eat-2.result
    (λ e h fs. still c.args.cursor.now c.eat.new.self fs fraction (c.if-eat.ensures.unmoved refl) (c.if-eat.ensures.still refl)
    ∙ on c.eat.new.self c.eat-2.new.self fs fs fraction exponent 69 (c.if-eat-2.ensures.eaten refl) (c.if-eat-2.ensures.at refl) refl (large_letter fs) ∙ h fs)
    c.read_power-then-eat-2.ensures.stops

pub returns-clause-leads : goal.returns-clause-leads
returns-clause-leads c = λ fs.
    let first = c.args.cursor.now in
    let third = c.eat-2.new.self in
    let same = c.if-eat-2.ensures.unmoved refl ∙ c.if-eat.ensures.unmoved refl in
    no_exp first.at fs (left first) c.requires (c.if-eat.ensures.other refl) (λ r e. c.if-eat-2.ensures.other refl r (c.if-eat.ensures.unmoved refl ∙ e))
    ∙ still first third fs done same (c.if-eat-2.ensures.still refl ∙ c.if-eat.ensures.still refl)
