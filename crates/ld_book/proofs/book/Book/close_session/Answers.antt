use Rattle.std.proofs.Common.{◌≡◌, sym, subst, true}
use Rattle.std.specs.Arc.{arc_value}
use Rattle.ld_history.specs.Store.{Store}
use Rattle.ld_history.specs.Rules.{may_close}
use Rattle.ld_history.specs.Legal.{History}
use Rattle.ld_history.specs.Steps.{close_step}
use Rattle.ld_book.specs.Kept.{IsBook, values_in}
use Rattle.ld_book.proofs.Saying.{close_says}
use Rattle.ld_book.proofs.Taking.{keeps_settled}
use Rattle.ld_book.proofs.Viewing.{in_state, stepped}
use Rattle.ld_book.proofs.book.Book.close_session.Goals as goal

pub close_session-requires : goal.close_session-requires
close_session-requires c =
    let s = c.self.inside in
    in_state s.state (values_in s.documents.items) c.args.self.now c.self.view_is (λ (store : Store). may_close store c.args.session ≡ true) c.requires

pub invariant_of-self : goal.invariant_of-self
invariant_of-self c =
    let s = c.self.inside in
    let docs = values_in s.documents.items in
    subst (λ (h : History). IsBook h s.tower (arc_value s.snapshot) docs) (sym c.close_session.ensures)
    (keeps_settled s.state s.tower (arc_value s.snapshot) docs c.self.invariant (close_step s.state c.args.session) (close_says s.state c.args.session))

pub returns : goal.returns
returns c =
    let s = c.self.inside in
    stepped s.state (values_in s.documents.items) c.args.self.now c.self.view_is (λ h. close_step h c.args.session) c.self.invariant.used c.close_session.new.self c.close_session.ensures
