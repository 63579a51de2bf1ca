use Rattle.std.proofs.Common.{◌+◌, ◌*◌, ◌^◌, sym, ap, Some, subst, ◌∙◌, arith}
use Rattle.ld_tree_read.specs.Digits.{IsHeld}
use Rattle.ld_tree_read.proofs.Powers.{zero_more, zero_first, digit_more, held_more, held_zero, held_some, held_none}
use Rattle.ld_tree_read.proofs.decimal.with_digit.Goals as goal
use Rattle.ld_tree_read.proofs.decimal.with_digit.Goals.{in_default-via-in-Some+in_default, in_default-via-in_default}

pub returns-in-Some-eq0-clause-stands : goal.returns-in-Some-eq0-clause-stands
returns-in-Some-eq0-clause-stands c = λ ds h. rw c.if-digit-eq0.true (zero_first h (held_zero (c.in-Some-eq0.is ∙ ap Some (sym c.in-Some-eq0.field-0-is ∙ c.in-Some-eq0.field-0-test)) h.held))

pub returns-in_default-clause-stands : goal.returns-in_default-clause-stands
returns-in_default-clause-stands c = λ ds h. rw c.if-digit-eq0.true (zero_more h (elim c.in_default.branch [ in_default-via-in-Some+in_default w ↦ λ none. w.in_default.field-0-test.1 (w.in_default.field-0-is ∙ held_some w.in_default.field-0 w.in_default.is h.held ∙ none) | in_default-via-in_default w ↦ λ none. let big = held_none w.in_default.is h.held in omega (arith, big, none) ]))

pub returns-in-Some-clause-stands : goal.returns-in-Some-clause-stands
returns-in-Some-clause-stands c = λ ds h.
    let top = held_some c.in-Some.value c.in-Some.is h.held in
    digit_more h c.next_significant-significant.result c.args.digit (omega (arith, c.if-digit-eq0.false)) c.requires.digit
    (subst (λ t. IsHeld c.next_significant-significant.result (t * 10 ^ (c.args.digits.zeros + 1) + c.args.digit)) top c.next_significant-significant.ensures)

pub returns-in-None-clause-stands : goal.returns-in-None-clause-stands
returns-in-None-clause-stands c = λ ds h.
    digit_more h _ c.args.digit (omega (arith, c.if-digit-eq0.false)) c.requires.digit (held_more h c.args.digit (held_none c.in-None.is h.held))
