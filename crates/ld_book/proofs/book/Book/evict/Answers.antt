use Rattle.std.proofs.Common.{◌≡◌, ◌∙◌, ◌+◌, ◌^◌, ◌<◌, ℕ, List, Option, ap, sym, subst, true, arith}
use Rattle.std.specs.Prelude.{unwrap_or}
use Rattle.std.specs.Arc.{arc_value}
use Rattle.std.proofs.lemmas.Result.{IfOk-at_ok}
use Rattle.ld_store.specs.Snapshots.{Shot, evicted}
use Rattle.ld_history.specs.Store.{Store}
use Rattle.ld_history.specs.Rules.{has_pinned}
use Rattle.ld_history.specs.Legal.{History, state}
use Rattle.ld_history.specs.Steps.{Answers, evict_step, grown}
use Rattle.ld_book.specs.Kept.{IsBook, values_in}
use Rattle.ld_book.specs.Passes.{if_evicted}
use Rattle.ld_book.specs.Said.{told_evict}
use Rattle.ld_book.proofs.Allowing.{evicts}
use Rattle.ld_book.proofs.Counting.{counts}
use Rattle.ld_book.proofs.Taking.{keeps_evict}
use Rattle.ld_book.proofs.Viewing.{in_state, says_in, stepped}
use Rattle.ld_book.proofs.book.Book.evict.Goals as goal

pub overflow_add-version : goal.overflow_add-version
overflow_add-version c =
    let s = c.self.inside in
    let fits = counts s.state.limits s.state.entries c.self.invariant.within c.events-events.ensures.legal in
    omega (arith, fits.version, c.version.ensures)

pub allowed-requires : goal.allowed-requires
allowed-requires c refused =
    let s = c.self.inside in
    evicts s.state c.args.session c.in_ok-name.name (in_state s.state (values_in s.documents.items) c.args.self.now c.self.view_is (λ (store : Store). has_pinned store c.args.session ≡ true) c.requires)
    (c.evict.ensures.refused refused)

pub invariant_of-self-2 : goal.invariant_of-self-2
invariant_of-self-2 c =
    let s = c.self.inside in
    let docs = values_in s.documents.items in
    let shot = arc_value s.snapshot in
    let iri = c.args.iri.now in
    let a = c.in_ok-answer.answer in
    let same : c.in_ok-name.name ≡ iri = c.in_ok-name.ensures in
    let is : Answers (evict_step s.state c.args.session iri) a = subst (λ (q : List ℕ). Answers (evict_step s.state c.args.session q) a) same (IfOk-at_ok _ c.in_ok-answer.ensures.taken c.evict.ensures.answered) in
    let grew : c.evict.new.self ≡ grown s.state (evict_step s.state c.args.session iri)
    = IfOk-at_ok _ c.in_ok-answer.ensures.taken c.evict.ensures.appended ∙ ap (λ (q : List ℕ). grown s.state (evict_step s.state c.args.session q)) same in
    let next : arc_value c.in_ok-next.next ≡ evicted shot iri ((state s.state.entries).version + 1)
    = c.in_ok-next.ensures ∙ ap (λ (x : Shot). evicted x iri (c.version.result + 1)) c.deref.ensures ∙ ap (λ (v : ℕ). evicted shot iri (v + 1)) c.version.ensures in
    let now : arc_value c.renew.new.snapshot ≡ unwrap_or (if_evicted a (evicted shot iri ((state s.state.entries).version + 1))) shot
    = c.renew.ensures ∙ ap (λ (o : Option Shot). unwrap_or o shot) (c.if_evicted.ensures ∙ ap (if_evicted a) next) in
    subst (λ (h : History). IsBook h s.tower (arc_value c.renew.new.snapshot) docs) (sym grew)
    (subst (λ (x : Shot). IsBook (grown s.state (evict_step s.state c.args.session iri)) s.tower x docs) (sym now) (keeps_evict s.state s.tower shot docs c.self.invariant c.args.session iri a is))

pub returns-clause-answered : goal.returns-clause-answered
returns-clause-answered c =
    let s = c.self.inside in
    let iri = c.args.iri.now in
    let a = c.in_ok-answer.answer in
    let is : Answers (evict_step s.state c.args.session iri) a = subst (λ (q : List ℕ). Answers (evict_step s.state c.args.session q) a) c.in_ok-name.ensures (IfOk-at_ok _ c.in_ok-answer.ensures.taken c.evict.ensures.answered) in
    says_in s.state (values_in s.documents.items) c.args.self.now c.self.view_is told_evict (λ h. evict_step h c.args.session iri) a _ is (sym c.told_evict.ensures)

pub returns-clause-appended : goal.returns-clause-appended
returns-clause-appended c =
    let s = c.self.inside in
    let grew : c.evict.new.self ≡ grown s.state (evict_step s.state c.args.session c.args.iri.now)
    = IfOk-at_ok _ c.in_ok-answer.ensures.taken c.evict.ensures.appended ∙ ap (λ (q : List ℕ). grown s.state (evict_step s.state c.args.session q)) c.in_ok-name.ensures in
    stepped s.state (values_in s.documents.items) c.args.self.now c.self.view_is (λ h. evict_step h c.args.session c.args.iri.now) c.self.invariant.used c.evict.new.self grew
