use Rattle.std.proofs.Common.{◌∙◌, sym, ap, Some, Err}
use Rattle.ld_tree_read.specs.Refusals.{number_refusal, fault_refusal}
use Rattle.ld_tree_read.proofs.Values.{bad_number}
use Rattle.ld_tree_read.specs.declared.refusal.ReadRefusal.TheVariants as r
use Rattle.ld_tree_read.proofs.number.read_num.Goals as goal

pub returns-in-Err-Fraction-clause-stops : goal.returns-in-Err-Fraction-clause-stops
returns-in-Err-Fraction-clause-stops c = λ fs.
    let start = c.args.cursor.now in
    let fault = sym c.in-Err-Fraction.ensures ∙ ap Err c.in-Err-Fraction.field-0-is in
    bad_number start fs (r.Fraction start.at) c.requires (ap (number_refusal start.at) c.in_ok-number.ensures.found ∙ ap (fault_refusal start.at) fault) ∙ ap (λ n. Some (r.Fraction n)) (sym c.at-at.ensures)

pub returns-in-Err-TooLarge-clause-stops : goal.returns-in-Err-TooLarge-clause-stops
returns-in-Err-TooLarge-clause-stops c = λ fs.
    let start = c.args.cursor.now in
    let fault = sym c.in-Err-TooLarge.ensures ∙ ap Err c.in-Err-TooLarge.field-0-is in
    bad_number start fs (r.TooLarge start.at) c.requires (ap (number_refusal start.at) c.in_ok-number.ensures.found ∙ ap (fault_refusal start.at) fault) ∙ ap (λ n. Some (r.TooLarge n)) (sym c.at-at.ensures)
