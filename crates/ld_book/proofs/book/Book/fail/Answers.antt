use Rattle.std.proofs.Common.{◌≡◌, ◌∙◌, ap, sym, subst, true}
use Rattle.std.specs.Arc.{arc_value}
use Rattle.ld_history.specs.Store.{Store}
use Rattle.ld_history.specs.Rules.{may_fail}
use Rattle.ld_history.specs.Legal.{History}
use Rattle.ld_history.specs.Steps.{fail_step, grown}
use Rattle.ld_book.specs.Kept.{IsBook, values_in}
use Rattle.ld_book.proofs.Saying.{fail_says}
use Rattle.ld_book.proofs.Taking.{keeps_settled}
use Rattle.ld_book.proofs.Viewing.{in_state, stepped}
use Rattle.ld_book.proofs.book.Book.fail.Goals as goal

pub fail-requires : goal.fail-requires
fail-requires c =
    let s = c.self.inside in
    let refused = c.args.refused in
    in_state s.state (values_in s.documents.items) c.args.self.now c.self.view_is (λ (store : Store). may_fail store c.flight.result refused.before refused.after ≡ true)
    (rw c.flight.ensures c.requires.allowed)

pub invariant_of-self : goal.invariant_of-self
invariant_of-self c =
    let s = c.self.inside in
    let docs = values_in s.documents.items in
    subst (λ (h : History). IsBook h s.tower (arc_value s.snapshot) docs) (sym c.fail.ensures)
    (keeps_settled s.state s.tower (arc_value s.snapshot) docs c.self.invariant (fail_step s.state c.flight.result c.args.refused.before c.args.refused.after)
    (fail_says s.state c.flight.result c.args.refused.before c.args.refused.after))

pub returns : goal.returns
returns c =
    let s = c.self.inside in
    let refused = c.args.refused in
    stepped s.state (values_in s.documents.items) c.args.self.now c.self.view_is (λ h. fail_step h refused.pass.number refused.before refused.after) c.self.invariant.used c.fail.new.self
    (c.fail.ensures ∙ ap (λ n. grown s.state (fail_step s.state n refused.before refused.after)) c.flight.ensures)
