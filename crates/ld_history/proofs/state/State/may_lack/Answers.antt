use Rattle.std.proofs.Common.{◌≡◌, ◌∙◌, ap, sym, Bool, Some, ◌&&◌, not}
use Rattle.std.specs.Prelude.{length, nat_le}
use Rattle.ld_history.specs.Store.{Store}
use Rattle.ld_history.specs.Words.{at_number, is_pinned, is_some_and}
use Rattle.ld_history.specs.Legal.{History, is_in_stock, state}
use Rattle.ld_history.specs.Rules.{on_session}
use Rattle.ld_history.specs.Steps.{may_lack}
use Rattle.ld_history.specs.ByTurns as turns
use Rattle.ld_history.proofs.LawTold.{stock_alike}
use Rattle.ld_history.proofs.state.State.may_lack.Goals as goal

pub returns-in-Some : goal.returns-in-Some
returns-in-Some c =
    let s = c.self.inside in
    let session = c.args.session in
    let iri = c.args.iri.now in
    let found = c.in-Some.s.now in
    let entries = s.history.items in
    let kept = c.self.invariant.kept in
    let is : at_number (state entries).sessions session ≡ Some found = ap (λ (x : Store). at_number x.sessions session) (sym kept.replayed) ∙ sym c.in-Some.ensures in
    let same = stock_alike s.limits entries kept.legal session found is iri in
    c.may_lack.ensures
    ∙ ap (λ (x : Store). turns.may_lack x iri found) kept.replayed
    ∙ ap (λ (w : Bool). is_pinned found.last && not w && nat_le (length iri) 2048) (sym same)
    ∙ sym (ap (is_some_and (may_lack (is_in_stock entries) iri)) is)
    ∙ ap (λ (h : History). on_session (state h.entries) session (may_lack (is_in_stock h.entries) iri)) c.self.view_is
