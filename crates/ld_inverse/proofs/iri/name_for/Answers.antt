use Rattle.std.proofs.Common.{◌≡◌, ℕ, List, None, Ok, false, true, ap, sym, subst, ◌∙◌}
use Rattle.std.specs.Option.{option_copied}
use Rattle.ld_rec.specs.Outcome.{Gives}
use Rattle.ld_rec.specs.Compacting.{by_form, given_or, Outcome}
use Rattle.ld_inverse.specs.Questions.{question_of}
use Rattle.ld_inverse.proofs.Names.{name_by}
use Rattle.ld_inverse.proofs.iri.name_for.Goals as goal

pub returns-in-Some : goal.returns-in-Some
returns-in-Some g c =
    let context = g.V.View.flat c.args.ctx.now in
    sym (name_by context c.args.iri.now (question_of c.in_ok-question.question) None (option_copied c.term_for.result) c.in_ok-question.ensures (c.term_for.ensures context c.requires.inverse))
    ∙ ap (λ t. given_or (option_copied t) (by_form context c.args.iri.now false true)) c.in-Some.is
    ∙ ap Ok (sym c.in_ok-from_str-in-Some.ensures)

pub returns : goal.returns
returns g c =
    let context = g.V.View.flat c.args.ctx.now in
    subst (Gives c.by_form.result)
    (sym (ap (λ t. given_or (option_copied t) (by_form context c.args.iri.now false true)) c.in-None.is)
    ∙ name_by context c.args.iri.now (question_of c.in_ok-question.question) None (option_copied c.term_for.result) c.in_ok-question.ensures (c.term_for.ensures context c.requires.inverse))
    c.by_form.ensures
