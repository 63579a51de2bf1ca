use Rattle.std.proofs.Common.{◌≡◌, ◌∙◌, ap, sym, subst, refl, true, not, ◌&&◌}
use Rattle.std.specs.Prelude.{nat_lt}
use Rattle.std.specs.Arc.{arc_value}
use Rattle.std.proofs.lemmas.Result.{IfOk-at_ok}
use Rattle.ld_history.specs.declared.answers.OpenAnswer.{OpenAnswer}
use Rattle.ld_history.specs.Store.{Store}
use Rattle.ld_history.specs.Words.{is_taken}
use Rattle.ld_history.specs.Legal.{History}
use Rattle.ld_history.specs.Steps.{Answers, grown, open_step}
use Rattle.ld_book.specs.Kept.{IsBook, values_in}
use Rattle.ld_book.proofs.Allowing.{opens}
use Rattle.ld_book.proofs.Taking.{keeps_open}
use Rattle.ld_book.proofs.Viewing.{answers_in, in_state, stepped, whenever}
use Rattle.ld_book.proofs.book.Book.open_session.Goals as goal
use Rattle.ld_book.proofs.book.Book.open_session.Goals.{in-Opened, in-HistoryFull}

pub allowed-requires : goal.allowed-requires
allowed-requires c refused =
    let s = c.self.inside in
    opens s.state c.args.seat (in_state s.state (values_in s.documents.items) c.args.self.now c.self.view_is (λ (store : Store). (nat_lt c.args.seat 256 && not (is_taken store c.args.seat)) ≡ true) c.requires)
    (c.open_session.ensures.refused refused)

pub invariant_of-self-2 : goal.invariant_of-self-2
invariant_of-self-2 c =
    let s = c.self.inside in
    let docs = values_in s.documents.items in
    let a = c.in_ok-session.field-0 in
    let is : Answers (open_step s.state c.args.seat) a = IfOk-at_ok _ c.in_ok-session.ensures.taken c.open_session.ensures.answered in
    let grew : c.open_session.new.self ≡ grown s.state (open_step s.state c.args.seat) = IfOk-at_ok _ c.in_ok-session.ensures.taken c.open_session.ensures.appended in
    subst (λ (h : History). IsBook h s.tower (arc_value s.snapshot) docs) (sym grew) (keeps_open s.state s.tower (arc_value s.snapshot) docs c.self.invariant c.args.seat a is)

pub returns-clause-opened : goal.returns-clause-opened
returns-clause-opened c =
    let s = c.self.inside in
    let is : Answers (open_step s.state c.args.seat) c.in_ok-session.field-0 = IfOk-at_ok _ c.in_ok-session.ensures.taken c.open_session.ensures.answered in
    elim c.match-branch-2.branch [
      | in-Opened w ↦ rw w.result-is (answers_in s.state (values_in s.documents.items) c.args.self.now c.self.view_is (λ h. open_step h c.args.seat) c.in_ok-session.field-0 _ is w.in-Opened.is)
      | in-HistoryFull w ↦ rw w.result-is tt
    ]

pub returns-clause-refused : goal.returns-clause-refused
returns-clause-refused c =
    let s = c.self.inside in
    let is : Answers (open_step s.state c.args.seat) c.in_ok-session.field-0 = IfOk-at_ok _ c.in_ok-session.ensures.taken c.open_session.ensures.answered in
    elim c.match-branch-2.branch [
      | in-Opened w ↦ rw w.result-is tt
      | in-HistoryFull w ↦ rw w.result-is (answers_in s.state (values_in s.documents.items) c.args.self.now c.self.view_is (λ h. open_step h c.args.seat) c.in_ok-session.field-0 _ is w.in-HistoryFull.is)
    ]

pub returns-clause-appended : goal.returns-clause-appended
returns-clause-appended c =
    let s = c.self.inside in
    whenever c.match-branch-2.result
    (stepped s.state (values_in s.documents.items) c.args.self.now c.self.view_is (λ h. open_step h c.args.seat) c.self.invariant.used c.open_session.new.self
    (IfOk-at_ok _ c.in_ok-session.ensures.taken c.open_session.ensures.appended))
