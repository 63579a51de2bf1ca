use Rattle.std.proofs.Common.{◌≡◌, Some, None, true, false, sym, ◌∙◌}
use Rattle.ld_inverse.specs.Questions.{question_of}
use Rattle.ld_inverse.proofs.Preferred.{term_by_wish}
use Rattle.ld_inverse.proofs.iri.by_vocab_first.Goals as goal

pub returns-then-eq : goal.returns-then-eq
returns-then-eq c = λ context h. c.select.ensures context h ∙ term_by_wish context c.args.iri.now (question_of c.args.question.now) (Some true) true (sym c.eq.ensures ∙ c.if-eq.true)

pub returns-else-eq : goal.returns-else-eq
returns-else-eq c = λ context h. c.select-else-eq.ensures context h ∙ term_by_wish context c.args.iri.now (question_of c.args.question.now) (Some true) false (sym c.eq.ensures ∙ c.if-eq.false)
