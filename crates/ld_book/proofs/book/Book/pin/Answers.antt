use Rattle.std.proofs.Common.{◌≡◌, sym, subst, true, ◌||◌}
use Rattle.std.specs.Arc.{arc_value}
use Rattle.std.proofs.lemmas.Result.{IfOk-at_ok}
use Rattle.std.specs.Prelude.{map}
use Rattle.ld_store.specs.Snapshots.{Shot, stock_at}
use Rattle.ld_history.specs.Store.{Store}
use Rattle.ld_history.specs.Words.{is_idle}
use Rattle.ld_history.specs.Rules.{may_pin_again, on_session}
use Rattle.ld_history.specs.Legal.{History, stock}
use Rattle.ld_history.specs.Steps.{Answers, grown, pin_step}
use Rattle.ld_book.specs.Pages.{entries_of, stock_of}
use Rattle.ld_book.specs.Kept.{IsBook, paged, values_in}
use Rattle.ld_book.proofs.Allowing.{pins}
use Rattle.ld_book.proofs.Taking.{keeps_pin, pinned_now}
use Rattle.ld_book.proofs.Viewing.{answers_in, flights_shown, in_state, stepped, stock_shown, whenever}
use Rattle.ld_book.proofs.book.Book.pin.Goals as goal
use Rattle.ld_book.proofs.book.Book.pin.Goals.{in-Pinned, in-HistoryFull}

pub allowed-requires : goal.allowed-requires
allowed-requires c refused =
    let s = c.self.inside in
    pins s.state c.args.session
    (in_state s.state (values_in s.documents.items) c.args.self.now c.self.view_is (λ (store : Store). on_session store c.args.session (λ s. is_idle s.last || may_pin_again store s.last) ≡ true) c.requires)
    (c.pin.ensures.refused refused)

pub invariant_of-self-2 : goal.invariant_of-self-2
invariant_of-self-2 c =
    let s = c.self.inside in
    let docs = values_in s.documents.items in
    let a = c.in_ok-request.field-0 in
    let is : Answers (pin_step s.state c.args.session) a = IfOk-at_ok _ c.in_ok-request.ensures.taken c.pin.ensures.answered in
    let grew : c.pin.new.self ≡ grown s.state (pin_step s.state c.args.session) = IfOk-at_ok _ c.in_ok-request.ensures.taken c.pin.ensures.appended in
    subst (λ (h : History). IsBook h s.tower (arc_value s.snapshot) docs) (sym grew) (keeps_pin s.state s.tower (arc_value s.snapshot) docs c.self.invariant c.args.session a is)

pub returns-clause-pinned : goal.returns-clause-pinned
returns-clause-pinned c =
    let s = c.self.inside in
    let docs = values_in s.documents.items in
    let a = c.in_ok-request.field-0 in
    let is : Answers (pin_step s.state c.args.session) a = IfOk-at_ok _ c.in_ok-request.ensures.taken c.pin.ensures.answered in
    elim c.match-branch-3.branch [
      | in-Pinned w ↦ rw w.result-is (answers_in s.state docs c.args.self.now c.self.view_is (λ h. pin_step h c.args.session) a _ is
          (pinned_now s.state s.tower (arc_value s.snapshot) docs c.self.invariant c.args.session _ _ _ a is w.in-Pinned.is (arc_value c.in_ok-snapshot.snapshot) c.in_ok-snapshot.ensures))
      | in-HistoryFull w ↦ rw w.result-is tt
    ]

pub returns-clause-refused : goal.returns-clause-refused
returns-clause-refused c =
    let s = c.self.inside in
    let a = c.in_ok-request.field-0 in
    let is : Answers (pin_step s.state c.args.session) a = IfOk-at_ok _ c.in_ok-request.ensures.taken c.pin.ensures.answered in
    elim c.match-branch-3.branch [
      | in-Pinned w ↦ rw w.result-is tt
      | in-HistoryFull w ↦ rw w.result-is (answers_in s.state (values_in s.documents.items) c.args.self.now c.self.view_is (λ h. pin_step h c.args.session) a _ is w.in-HistoryFull.is)
    ]

pub returns-clause-appended : goal.returns-clause-appended
returns-clause-appended c =
    let s = c.self.inside in
    whenever c.match-branch-3.result
    (stepped s.state (values_in s.documents.items) c.args.self.now c.self.view_is (λ h. pin_step h c.args.session) c.self.invariant.used c.pin.new.self
    (IfOk-at_ok _ c.in_ok-request.ensures.taken c.pin.ensures.appended))

pub returns-clause-stock : goal.returns-clause-stock
returns-clause-stock c =
    let s = c.self.inside in
    let docs = values_in s.documents.items in
    let now = c.pin.new.self in
    elim c.match-branch-3.branch [
      | in-Pinned w ↦ rw w.result-is (subst (λ (x : Shot). (stock_at x).0 ≡ stock_of (paged now.entries docs) x.version) (sym c.in_ok-snapshot.ensures)
          (stock_shown now s.tower (arc_value s.snapshot) docs (invariant_of-self-2 c) w.events-events.ensures.legal))
      | in-HistoryFull w ↦ rw w.result-is tt
    ]

pub returns-clause-flights : goal.returns-clause-flights
returns-clause-flights c =
    let s = c.self.inside in
    let docs = values_in s.documents.items in
    let now = c.pin.new.self in
    elim c.match-branch-3.branch [
      | in-Pinned w ↦ rw w.result-is (subst (λ (x : Shot). map (λ e. (e.0, e.1.flight)) x.placed.0 ≡ stock (entries_of (paged now.entries docs)) x.version) (sym c.in_ok-snapshot.ensures)
          (flights_shown now s.tower (arc_value s.snapshot) docs (invariant_of-self-2 c) w.events-events.ensures.legal))
      | in-HistoryFull w ↦ rw w.result-is tt
    ]
