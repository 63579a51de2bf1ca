use Rattle.std.proofs.Common.{◌≡◌, sym, subst, true}
use Rattle.std.specs.Prelude.{is_some}
use Rattle.std.specs.Arc.{arc_value}
use Rattle.ld_history.specs.Legal.{History}
use Rattle.ld_history.specs.Steps.{answer_step}
use Rattle.ld_book.specs.Kept.{IsBook, values_in}
use Rattle.ld_book.proofs.Saying.{answer_says}
use Rattle.ld_book.proofs.Taking.{keeps_settled}
use Rattle.ld_book.proofs.Viewing.{seen, stepped}
use Rattle.ld_book.proofs.book.Book.answered.Goals as goal

pub answer-requires : goal.answer-requires
answer-requires c =
    let s = c.self.inside in
    subst (λ (h : History). is_some (answer_step h c.args.session c.args.how) ≡ true) (seen s.state (values_in s.documents.items) c.args.self.now c.self.view_is) c.requires

pub invariant_of-self : goal.invariant_of-self
invariant_of-self c =
    let s = c.self.inside in
    let docs = values_in s.documents.items in
    subst (λ (h : History). IsBook h s.tower (arc_value s.snapshot) docs) (sym c.answer.ensures.appended)
    (keeps_settled s.state s.tower (arc_value s.snapshot) docs c.self.invariant (answer_step s.state c.args.session c.args.how) (answer_says s.state c.args.session c.args.how))

pub returns : goal.returns
returns c =
    let s = c.self.inside in
    stepped s.state (values_in s.documents.items) c.args.self.now c.self.view_is (λ h. answer_step h c.args.session c.args.how) c.self.invariant.used c.answer.new.self c.answer.ensures.appended
