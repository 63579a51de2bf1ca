use Rattle.std.proofs.Common.{sym, ◌∙◌, Some, arith}
use Rattle.ld_rec.specs.Terms.{backward_to}
use Rattle.ld_term.specs.Waits.{made_of, rest_of, draft_of, first_and_backed}
use Rattle.ld_term.proofs.Along.{comes_along}
use Rattle.ld_term.proofs.Parts.{backed_first}
use Rattle.ld_term.proofs.Shrinking.{looser}
use Rattle.ld_term.proofs.reverse.backward_text.Goals as goal

pub returns-then-is_keyword_form-clause-size : goal.returns-then-is_keyword_form-clause-size
returns-then-is_keyword_form-clause-size c = looser c.ignored.result 1 5 (omega arith) c.ignored.ensures.size

pub returns-else-is_keyword_form-clause-gives : goal.returns-else-is_keyword_form-clause-gives
returns-else-is_keyword_form-clause-gives c = λ check define.
    let m = made_of c.args.made.now c.args.defined.now in
    let r = rest_of c.args.rest.now in
    let t = c.args.task in
    comes_along _ _ (backward_to define r c.args.local.now t.term c.args.entries.now t.previous (Some c.args.value.now) (draft_of t m)).run (first_and_backed check define r c.args.local.now t c.args.entries.now c.args.value.now m).run
    (backed_first check define r c.args.local.now t c.args.entries.now m c.args.value.now (sym c.is_keyword_form.ensures ∙ c.if-is_keyword_form.false))
    (c.first_and_backed.ensures.gives check define)
