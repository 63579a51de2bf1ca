use Rattle.std.proofs.Common.{◌∙◌, sym, ap, ap₂, Some, subst, ◌+◌, drop, take, length, arith}
use Rattle.std.specs.List.{prefix_len}
use Rattle.std.proofs.lemmas.List.Sums.{prefix_len-le-length}
use Rattle.ld_tree_read.specs.Cursor.{left}
use Rattle.ld_tree_read.specs.Digits.{AreDigits}
use Rattle.ld_tree.specs.Numbers.{is_digit}
use Rattle.ld_tree_read.specs.Refusals.{refusal}
use Rattle.ld_tree_read.specs.Steps.{NoDigit}
use Rattle.ld_tree_read.proofs.Scans.{digits_lead, digits_stop, no_digit, run_each}
use Rattle.ld_tree_read.proofs.number.read_digits.Goals as goal

pub returns-then-count-eq0-clause-stops : goal.returns-then-count-eq0-clause-stops
returns-then-count-eq0-clause-stops c = λ here there h fs.
    let bs = left c.args.cursor.now in
    let none = ap (prefix_len is_digit) (sym c.rest-rest.ensures) ∙ sym c.digits_len-count.ensures ∙ c.if-count-eq0.true in
    digits_stop c.args.cursor.now.at bs here there none h fs ∙ ap Some (sym c.no_text.ensures)

pub advance-requires : goal.advance-requires
advance-requires c = omega (arith, c.digits_len-count.ensures, prefix_len-le-length is_digit c.rest-rest.result.now, ap length c.rest-rest.ensures)

pub returns-clause-each : goal.returns-clause-each
returns-clause-each c = subst (λ n. AreDigits (take n c.rest-rest.result.now)) (sym c.digits_len-count.ensures) (run_each c.rest-rest.result.now)

pub returns-clause-ends : goal.returns-clause-ends
returns-clause-ends c =
    let bs = left c.args.cursor.now in
    let count = c.digits_len-count.ensures ∙ ap (prefix_len is_digit) c.rest-rest.ensures in
    subst NoDigit (sym (c.advance.ensures.left ∙ ap (λ n. drop n bs) count)) (no_digit bs)

pub returns-clause-leads : goal.returns-clause-leads
returns-clause-leads c = λ here there h fs.
    let bs = left c.args.cursor.now in
    let at = c.args.cursor.now.at in
    let count = c.digits_len-count.ensures ∙ ap (prefix_len is_digit) c.rest-rest.ensures in
    digits_lead at bs here there (λ none. c.if-count-eq0.false (count ∙ none)) h fs
    ∙ ap (λ n. refusal (at + n) fs there (drop n bs)) (sym count) ∙ ap₂ (λ n bs. refusal n fs there bs) (sym c.advance.ensures.at) (sym c.advance.ensures.left)
