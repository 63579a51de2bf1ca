use Rattle.std.proofs.Common.{◌≡◌, ◌∙◌, ◌+◌, ℕ, List, Option, length, ap, sym, subst, true}
use Rattle.std.specs.Prelude.{unwrap_or}
use Rattle.std.specs.Option.{option_map}
use Rattle.std.specs.Arc.{arc_value}
use Rattle.std.proofs.lemmas.Result.{IfOk-at_ok}
use Rattle.ld_store.specs.Snapshots.{Shot, evicted}
use Rattle.ld_history.specs.declared.answers.Out.{Out}
use Rattle.ld_history.specs.Rules.{on_session}
use Rattle.ld_history.specs.Legal.{History, is_in_stock, state}
use Rattle.ld_history.specs.Steps.{Answers, grown, lack_step, may_lack, out_at, out_for}
use Rattle.ld_book.specs.Kept.{IsBook, values_in}
use Rattle.ld_book.specs.Passes.{passes_for_lack}
use Rattle.ld_book.specs.Said.{told_lack}
use Rattle.ld_book.proofs.Allowing.{lacks}
use Rattle.ld_book.proofs.Taking.{keeps_lack, lack_flight, out_is, shot_with}
use Rattle.ld_book.proofs.Viewing.{says_in, seen, stepped}
use Rattle.ld_book.proofs.book.Book.lack.Goals as goal

pub allowed-requires : goal.allowed-requires
allowed-requires c refused =
    let s = c.self.inside in
    let iri = c.args.iri.now in
    let ok : on_session (state s.state.entries) c.args.session (may_lack (is_in_stock s.state.entries) iri) ≡ true
    = subst (λ (h : History). on_session (state h.entries) c.args.session (may_lack (is_in_stock h.entries) iri) ≡ true) (seen s.state (values_in s.documents.items) c.args.self.now c.self.view_is) c.requires in
    lacks s.state c.args.session c.in_ok-name.name c.events-events.ensures.legal
    (subst (λ (q : List ℕ). on_session (state s.state.entries) c.args.session (may_lack (is_in_stock s.state.entries) q) ≡ true) (sym c.in_ok-name.ensures) ok) (c.lack.ensures.refused refused)

pub told_lack-requires-clause-flights : goal.told_lack-requires-clause-flights
told_lack-requires-clause-flights c =
    let s = c.self.inside in
    let docs = values_in s.documents.items in
    let a = c.in_ok-answer.answer in
    let name = c.in_ok-name.name in
    let is : Answers (lack_step s.state c.args.session name) a = IfOk-at_ok _ c.in_ok-answer.ensures.taken c.lack.ensures.answered in
    let grew : c.lack.new.self ≡ grown s.state (lack_step s.state c.args.session name) = IfOk-at_ok _ c.in_ok-answer.ensures.taken c.lack.ensures.appended in
    let kept = keeps_lack s.state s.tower (arc_value s.snapshot) docs c.self.invariant c.args.session name a is in
    ap (λ (h : History). length (state h.entries).flights) grew ∙ sym kept.passes

pub told_lack-requires-clause-number : goal.told_lack-requires-clause-number
told_lack-requires-clause-number c =
    let s = c.self.inside in
    lack_flight s.state s.tower (arc_value s.snapshot) (values_in s.documents.items) c.self.invariant c.args.session c.in_ok-name.name c.in_ok-answer.answer
    (IfOk-at_ok _ c.in_ok-answer.ensures.taken c.lack.ensures.answered)

pub invariant_of-self-2 : goal.invariant_of-self-2
invariant_of-self-2 c =
    let s = c.self.inside in
    let docs = values_in s.documents.items in
    let shot = arc_value s.snapshot in
    let iri = c.args.iri.now in
    let a = c.in_ok-answer.answer in
    let same : c.in_ok-name.name ≡ iri = c.in_ok-name.ensures in
    let is : Answers (lack_step s.state c.args.session iri) a = subst (λ (q : List ℕ). Answers (lack_step s.state c.args.session q) a) same (IfOk-at_ok _ c.in_ok-answer.ensures.taken c.lack.ensures.answered) in
    let grew : c.lack.new.self ≡ grown s.state (lack_step s.state c.args.session iri)
    = IfOk-at_ok _ c.in_ok-answer.ensures.taken c.lack.ensures.appended ∙ ap (λ (q : List ℕ). grown s.state (lack_step s.state c.args.session q)) same in
    let out : out_at (lack_step s.state c.args.session iri) ≡ out_for a = out_is (lack_step s.state c.args.session iri) a is in
    let now : arc_value c.renew.new.snapshot ≡ shot_with shot (out_for a)
    = c.renew.ensures ∙ ap (λ (o : Option Shot). unwrap_or o shot)
    (c.in_ok-next.ensures ∙ ap (λ (x : Shot). option_map (λ (o : Out). evicted x o.iri o.version) (out_at (lack_step s.state c.args.session iri))) c.deref.ensures
    ∙ ap (option_map (λ (o : Out). evicted shot o.iri o.version)) out) in
    subst (λ (made : ℕ). IsBook c.lack.new.self made (arc_value c.renew.new.snapshot) docs) (sym c.told_lack.ensures.made)
    (subst (λ (h : History). IsBook h (s.tower + passes_for_lack a) (arc_value c.renew.new.snapshot) docs) (sym grew)
    (subst (λ (x : Shot). IsBook (grown s.state (lack_step s.state c.args.session iri)) (s.tower + passes_for_lack a) x docs) (sym now) (keeps_lack s.state s.tower shot docs c.self.invariant c.args.session iri a is)))

pub returns-clause-answered : goal.returns-clause-answered
returns-clause-answered c =
    let s = c.self.inside in
    let iri = c.args.iri.now in
    let a = c.in_ok-answer.answer in
    let is : Answers (lack_step s.state c.args.session iri) a = subst (λ (q : List ℕ). Answers (lack_step s.state c.args.session q) a) c.in_ok-name.ensures (IfOk-at_ok _ c.in_ok-answer.ensures.taken c.lack.ensures.answered) in
    says_in s.state (values_in s.documents.items) c.args.self.now c.self.view_is (told_lack iri) (λ h. lack_step h c.args.session iri) a _ is
    (sym (c.told_lack.ensures.answer ∙ ap (λ (q : List ℕ). told_lack q a) c.in_ok-led.ensures))

pub returns-clause-appended : goal.returns-clause-appended
returns-clause-appended c =
    let s = c.self.inside in
    let grew : c.lack.new.self ≡ grown s.state (lack_step s.state c.args.session c.args.iri.now)
    = IfOk-at_ok _ c.in_ok-answer.ensures.taken c.lack.ensures.appended ∙ ap (λ (q : List ℕ). grown s.state (lack_step s.state c.args.session q)) c.in_ok-name.ensures in
    stepped s.state (values_in s.documents.items) c.args.self.now c.self.view_is (λ h. lack_step h c.args.session c.args.iri.now) c.self.invariant.used c.lack.new.self grew
