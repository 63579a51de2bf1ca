use Rattle.std.proofs.Common.{sym, ◌∙◌, arith}
use Rattle.ld_rec.specs.Terms.{ignored}
use Rattle.ld_term.specs.Waits.{made_of, rest_of, text_and_mapped, first_and_named}
use Rattle.ld_term.proofs.Along.{comes_along}
use Rattle.ld_term.proofs.Parts.{text_ignored, text_named}
use Rattle.ld_term.proofs.Shrinking.{looser}
use Rattle.ld_term.proofs.named.text_and_mapped.Goals as goal

pub returns-then-is_only_form-clause-gives : goal.returns-then-is_only_form-clause-gives
returns-then-is_only_form-clause-gives c = λ check define.
    let m = made_of c.args.made.now c.args.defined.now in
    let r = rest_of c.args.rest.now in
    comes_along _ _ (text_and_mapped check define r c.args.local.now c.args.task c.args.entries.now c.args.value.now m).run (ignored c.args.task.term m).run
    (text_ignored check define r c.args.local.now c.args.task c.args.entries.now m c.args.value.now (sym c.is_only_form.ensures ∙ c.if-is_only_form.true))
    (c.ignored.ensures.gives check define r c.args.local.now)

pub returns-else-is_only_form-clause-gives : goal.returns-else-is_only_form-clause-gives
returns-else-is_only_form-clause-gives c = λ check define.
    let m = made_of c.args.made.now c.args.defined.now in
    let r = rest_of c.args.rest.now in
    comes_along _ _ (text_and_mapped check define r c.args.local.now c.args.task c.args.entries.now c.args.value.now m).run (first_and_named check define r c.args.local.now c.args.task c.args.entries.now c.args.value.now m).run
    (text_named check define r c.args.local.now c.args.task c.args.entries.now m c.args.value.now (sym c.is_only_form.ensures ∙ c.if-is_only_form.false))
    (c.first_and_named.ensures.gives check define)

pub returns-then-is_only_form-clause-size : goal.returns-then-is_only_form-clause-size
returns-then-is_only_form-clause-size c = looser c.ignored.result 1 9 (omega arith) c.ignored.ensures.size
