use Rattle.std.proofs.Common.{◌∙◌, refl, sym, ap, Some}
use Rattle.ld_tree_read.specs.Cursor.{left}
use Rattle.ld_tree_read.specs.Refusals.{refusal, plain_refusal}
use Rattle.ld_tree_read.specs.State.{minus, zero_digit, whole}
use Rattle.ld_tree_read.proofs.Exits.{if_both, if_err}
use Rattle.ld_tree_read.proofs.Tokens.{on, still, zero_first, minus_digits, whole_ends, zero_stops}
use Rattle.ld_tree_read.proofs.number.read_int.Goals as goal

pub returns-then-not-eat-clause-leads : goal.returns-then-not-eat-clause-leads
returns-then-not-eat-clause-leads c =
    let start = c.args.cursor.now in
    let moved = c.eat.new.self in
    let end = c.read_digits.new.cursor in
    let digits = minus_digits (left moved) (λ r e. c.if-not-eat.ensures.other refl r (sym (c.if-not-eat.ensures.unmoved refl) ∙ e)) in
    if_both c.read_digits.result
    (λ ds h ends fs. still start moved fs minus (c.if-not-eat.ensures.unmoved refl) (c.if-not-eat.ensures.still refl) ∙ h minus whole digits fs ∙ whole_ends end.at fs (left end) ends)
    c.read_digits.ensures.leads c.read_digits.ensures.ends

pub returns-then-not-eat-clause-stops : goal.returns-then-not-eat-clause-stops
returns-then-not-eat-clause-stops c =
    let start = c.args.cursor.now in
    let moved = c.eat.new.self in
    let digits = minus_digits (left moved) (λ r e. c.if-not-eat.ensures.other refl r (sym (c.if-not-eat.ensures.unmoved refl) ∙ e)) in
    if_err c.read_digits.result (λ e h fs. still start moved fs minus (c.if-not-eat.ensures.unmoved refl) (c.if-not-eat.ensures.still refl) ∙ h minus whole digits fs) c.read_digits.ensures.stops

pub returns-in-Some-clause-stops : goal.returns-in-Some-clause-stops
returns-in-Some-clause-stops c = λ fs.
    let moved = c.eat.new.self in
    let next = c.in-Some.ensures.some in
    on c.args.cursor.now moved fs fs minus zero_digit 48 (c.if-not-eat.ensures.eaten refl) (c.if-not-eat.ensures.at refl) refl (zero_first fs)
    ∙ ap (refusal moved.at fs zero_digit) next.1 ∙ zero_stops moved.at fs c.in-Some.byte next.0 (sym (c.if-is_digit.ensures)) ∙ ap (λ bs. Some (plain_refusal moved.at bs)) (sym next.1) ∙ ap Some (sym c.no_text.ensures)

pub returns-in_default-clause-leads : goal.returns-in_default-clause-leads
returns-in_default-clause-leads c = λ fs. on c.args.cursor.now c.eat.new.self fs fs minus zero_digit 48 (c.if-not-eat.ensures.eaten refl) (c.if-not-eat.ensures.at refl) refl (zero_first fs)
