use Rattle.std.proofs.Common.{◌≡◌, ◌∙◌, ap, sym, subst, true}
use Rattle.std.specs.Arc.{arc_value}
use Rattle.ld_history.specs.Store.{Store}
use Rattle.ld_history.specs.Rules.{may_lapse}
use Rattle.ld_history.specs.Legal.{History}
use Rattle.ld_history.specs.Steps.{grown, lapse_step}
use Rattle.ld_book.specs.Kept.{IsBook, values_in}
use Rattle.ld_book.proofs.Saying.{lapse_says}
use Rattle.ld_book.proofs.Taking.{keeps_settled}
use Rattle.ld_book.proofs.Viewing.{in_state, stepped}
use Rattle.ld_book.proofs.book.Book.lapse.Goals as goal

pub lapse-requires : goal.lapse-requires
lapse-requires c =
    let s = c.self.inside in
    in_state s.state (values_in s.documents.items) c.args.self.now c.self.view_is (λ (store : Store). may_lapse store c.flight.result ≡ true) (rw c.flight.ensures c.requires)

pub invariant_of-self : goal.invariant_of-self
invariant_of-self c =
    let s = c.self.inside in
    let docs = values_in s.documents.items in
    subst (λ (h : History). IsBook h s.tower (arc_value s.snapshot) docs) (sym c.lapse.ensures)
    (keeps_settled s.state s.tower (arc_value s.snapshot) docs c.self.invariant (lapse_step s.state c.flight.result) (lapse_says s.state c.flight.result))

pub returns : goal.returns
returns c =
    let s = c.self.inside in
    stepped s.state (values_in s.documents.items) c.args.self.now c.self.view_is (λ h. lapse_step h c.args.pass.number) c.self.invariant.used c.lapse.new.self
    (c.lapse.ensures ∙ ap (λ n. grown s.state (lapse_step s.state n)) c.flight.ensures)
