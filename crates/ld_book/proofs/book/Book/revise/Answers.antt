use Rattle.std.proofs.Common.{◌≡◌, ◌∙◌, ◌+◌, ℕ, List, length, ap, sym, subst, true}
use Rattle.std.specs.Arc.{arc_value}
use Rattle.std.proofs.lemmas.Result.{IfOk-at_ok}
use Rattle.ld_history.specs.Store.{Store}
use Rattle.ld_history.specs.Rules.{has_pinned}
use Rattle.ld_history.specs.Legal.{History, state}
use Rattle.ld_history.specs.Steps.{Answers, grown, revise_step}
use Rattle.ld_book.specs.Kept.{IsBook, values_in}
use Rattle.ld_book.specs.Passes.{passes_for_revise}
use Rattle.ld_book.specs.Said.{told_revise}
use Rattle.ld_book.proofs.Allowing.{revises}
use Rattle.ld_book.proofs.Taking.{keeps_revise}
use Rattle.ld_book.proofs.Viewing.{in_state, says_in, stepped}
use Rattle.ld_book.proofs.book.Book.revise.Goals as goal

pub allowed-requires : goal.allowed-requires
allowed-requires c refused =
    let s = c.self.inside in
    revises s.state c.args.session c.in_ok-name.name (in_state s.state (values_in s.documents.items) c.args.self.now c.self.view_is (λ (store : Store). has_pinned store c.args.session ≡ true) c.requires)
    (c.revise.ensures.refused refused)

pub told_revise-requires-clause-flights : goal.told_revise-requires-clause-flights
told_revise-requires-clause-flights c =
    let s = c.self.inside in
    let docs = values_in s.documents.items in
    let a = c.in_ok-answer.answer in
    let name = c.in_ok-name.name in
    let is : Answers (revise_step s.state c.args.session name) a = IfOk-at_ok _ c.in_ok-answer.ensures.taken c.revise.ensures.answered in
    let grew : c.revise.new.self ≡ grown s.state (revise_step s.state c.args.session name) = IfOk-at_ok _ c.in_ok-answer.ensures.taken c.revise.ensures.appended in
    let kept = keeps_revise s.state s.tower (arc_value s.snapshot) docs c.self.invariant c.args.session name a is in
    ap (λ (h : History). length (state h.entries).flights) grew ∙ sym kept.passes

pub invariant_of-self-2 : goal.invariant_of-self-2
invariant_of-self-2 c =
    let s = c.self.inside in
    let docs = values_in s.documents.items in
    let a = c.in_ok-answer.answer in
    let name = c.in_ok-name.name in
    let is : Answers (revise_step s.state c.args.session name) a = IfOk-at_ok _ c.in_ok-answer.ensures.taken c.revise.ensures.answered in
    let grew : c.revise.new.self ≡ grown s.state (revise_step s.state c.args.session name) = IfOk-at_ok _ c.in_ok-answer.ensures.taken c.revise.ensures.appended in
    subst (λ (made : ℕ). IsBook c.revise.new.self made (arc_value s.snapshot) docs) (sym c.told_revise.ensures.made)
    (subst (λ (h : History). IsBook h (s.tower + passes_for_revise a) (arc_value s.snapshot) docs) (sym grew) (keeps_revise s.state s.tower (arc_value s.snapshot) docs c.self.invariant c.args.session name a is))

pub returns-clause-answered : goal.returns-clause-answered
returns-clause-answered c =
    let s = c.self.inside in
    let iri = c.args.iri.now in
    let a = c.in_ok-answer.answer in
    let is : Answers (revise_step s.state c.args.session iri) a = subst (λ (q : List ℕ). Answers (revise_step s.state c.args.session q) a) c.in_ok-name.ensures (IfOk-at_ok _ c.in_ok-answer.ensures.taken c.revise.ensures.answered) in
    says_in s.state (values_in s.documents.items) c.args.self.now c.self.view_is (told_revise iri) (λ h. revise_step h c.args.session iri) a _ is
    (sym (c.told_revise.ensures.answer ∙ ap (λ (q : List ℕ). told_revise q a) c.in_ok-led.ensures))

pub returns-clause-appended : goal.returns-clause-appended
returns-clause-appended c =
    let s = c.self.inside in
    let grew : c.revise.new.self ≡ grown s.state (revise_step s.state c.args.session c.args.iri.now)
    = IfOk-at_ok _ c.in_ok-answer.ensures.taken c.revise.ensures.appended ∙ ap (λ (q : List ℕ). grown s.state (revise_step s.state c.args.session q)) c.in_ok-name.ensures in
    stepped s.state (values_in s.documents.items) c.args.self.now c.self.view_is (λ h. revise_step h c.args.session c.args.iri.now) c.self.invariant.used c.revise.new.self grew
