use Rattle.std.proofs.Common.{◌≡◌, Some, ap, sym, ◌∙◌}
use Rattle.ld_rec.specs.Compacting.{term_for}
use Rattle.ld_inverse.specs.Questions.{question_of}
use Rattle.ld_inverse.proofs.iri.term_for.Goals as goal

pub returns-in-None : goal.returns-in-None
returns-in-None c = λ context h. c.without_reference.ensures context h ∙ ap (term_for context c.args.iri.now (question_of c.args.question.now)) (sym c.in-None.is)

pub returns-in-Some-true : goal.returns-in-Some-true
returns-in-Some-true c = λ context h. c.by_vocab_first.ensures context h ∙ ap (term_for context c.args.iri.now (question_of c.args.question.now)) (sym (c.in-Some-true.is ∙ ap Some c.in-Some-true.field-0-test))

pub returns-in-Some-false : goal.returns-in-Some-false
returns-in-Some-false c = λ context h. c.by_id_first.ensures context h ∙ ap (term_for context c.args.iri.now (question_of c.args.question.now)) (sym (c.in-Some-false.is ∙ ap Some c.in-Some-false.field-0-test))
