use Rattle.std.proofs.Common.{◌∙◌, refl, sym}
use Rattle.ld_tree_read.specs.Cursor.{left, Stops}
use Rattle.ld_tree_read.specs.State.{exponent, sign, power}
use Rattle.ld_tree_read.proofs.Exits.{passed_on}
use Rattle.ld_tree_read.proofs.Tokens.{on, still, minus_next, plus_next, sign_digits, exponent_digits}
use Rattle.ld_tree_read.proofs.number.read_power.Goals as goal

pub returns-in_err-read_digits-clause-stops : goal.returns-in_err-read_digits-clause-stops
returns-in_err-read_digits-clause-stops c =
    passed_on c.from_residual.result c.in_err-read_digits.field-0.0 (Stops c.args.cursor.now exponent) c.from_residual.ensures.1
    (λ fs. on c.args.cursor.now c.eat.new.self fs fs exponent sign 45 (c.if-eat.ensures.eaten refl) (c.if-eat.ensures.at refl) refl (minus_next fs)
    ∙ c.in_err-read_digits.ensures.stops sign power (sign_digits (left c.eat.new.self)) fs)

pub returns-then-eat-clause-leads : goal.returns-then-eat-clause-leads
returns-then-eat-clause-leads c = λ fs.
    on c.args.cursor.now c.eat.new.self fs fs exponent sign 45 (c.if-eat.ensures.eaten refl) (c.if-eat.ensures.at refl) refl (minus_next fs)
    ∙ c.in_ok-read_digits.ensures.leads sign power (sign_digits (left c.eat.new.self)) fs

pub returns-in_err-read_digits-2-clause-stops : goal.returns-in_err-read_digits-2-clause-stops
returns-in_err-read_digits-2-clause-stops c =
    passed_on c.from_residual-in_err-read_digits-2.result c.in_err-read_digits-2.field-0.0 (Stops c.args.cursor.now exponent) c.from_residual-in_err-read_digits-2.ensures.1
    (λ fs. still c.args.cursor.now c.eat.new.self fs exponent (c.if-eat.ensures.unmoved refl) (c.if-eat.ensures.still refl)
    ∙ on c.eat.new.self c.eat-2.new.self fs fs exponent sign 43 (c.if-eat-2.ensures.eaten refl) (c.if-eat-2.ensures.at refl) refl (plus_next fs)
    ∙ c.in_err-read_digits-2.ensures.stops sign power (sign_digits (left c.eat-2.new.self)) fs)

pub returns-then-eat-2-clause-leads : goal.returns-then-eat-2-clause-leads
returns-then-eat-2-clause-leads c = λ fs.
    still c.args.cursor.now c.eat.new.self fs exponent (c.if-eat.ensures.unmoved refl) (c.if-eat.ensures.still refl)
    ∙ on c.eat.new.self c.eat-2.new.self fs fs exponent sign 43 (c.if-eat-2.ensures.eaten refl) (c.if-eat-2.ensures.at refl) refl (plus_next fs)
    ∙ c.in_ok-read_digits-2.ensures.leads sign power (sign_digits (left c.eat-2.new.self)) fs

pub returns-in_err-read_digits-3-clause-stops : goal.returns-in_err-read_digits-3-clause-stops
returns-in_err-read_digits-3-clause-stops c =
    let first = c.args.cursor.now in
    let third = c.eat-2.new.self in
    let same = c.if-eat-2.ensures.unmoved refl ∙ c.if-eat.ensures.unmoved refl in
    let digits = exponent_digits (left third) (λ r e. c.if-eat.ensures.other refl r (sym same ∙ e)) (λ r e. c.if-eat-2.ensures.other refl r (sym (c.if-eat-2.ensures.unmoved refl) ∙ e)) in
    passed_on c.from_residual-in_err-read_digits-3.result c.in_err-read_digits-3.field-0.0 (Stops first exponent) c.from_residual-in_err-read_digits-3.ensures.1
    (λ fs. still first third fs exponent same (c.if-eat-2.ensures.still refl ∙ c.if-eat.ensures.still refl)
    ∙ c.in_err-read_digits-3.ensures.stops exponent power digits fs)

pub returns-clause-leads : goal.returns-clause-leads
returns-clause-leads c = λ fs.
    let first = c.args.cursor.now in
    let second = c.eat.new.self in
    let third = c.eat-2.new.self in
    let same = c.if-eat-2.ensures.unmoved refl ∙ c.if-eat.ensures.unmoved refl in
    let digits = exponent_digits (left third) (λ r e. c.if-eat.ensures.other refl r (sym same ∙ e)) (λ r e. c.if-eat-2.ensures.other refl r (sym (c.if-eat-2.ensures.unmoved refl) ∙ e)) in
    still first third fs exponent same (c.if-eat-2.ensures.still refl ∙ c.if-eat.ensures.still refl)
    ∙ c.in_ok-read_digits-3.ensures.leads exponent power digits fs
