use Rattle.std.proofs.Common.{◌≡◌, ◌∙◌, ℕ, true, length, sym, ap, subst}
use mathlib.Core.List.{IsPrefix}
use Rattle.ld_turn.specs.History.{IsOwnFrom}
use Rattle.ld_turn.specs.Known.{Known}
use Rattle.ld_history.specs.Rules.{may_close}
use Rattle.ld_history.specs.Steps.{close_step}
use Rattle.ld_book.specs.Pages.{Booked, after_step, history_of, state_of}
use Rattle.ld_book.specs.Seats.{lines_of, seat_of}
use Rattle.ld_book.specs.declared.page.Line.{Line}
use Rattle.ld_visit.specs.Turns.{Adding}
use Rattle.ld_visit.proofs.Closing.{close_own, may_close_at, visit_closed}
use Rattle.ld_visit.proofs.Leaving.{adding_grows, adding_own, adding_step, turned}
use Rattle.ld_visit.proofs.entry.close.Goals as goal

pub close_session-requires : goal.close_session-requires
close_session-requires g c =
    let e = c.enter-turn.ensures in
    subst (λ (x : Booked). may_close (state_of x) c.enter-turn.result.1 ≡ true) (sym c.value.ensures.value)
    (may_close_at c.args.visit c.enter-turn.result.0 e.enters c.requires.may c.enter-turn.result.1 e.session)

pub leave-requires-clause-grows : goal.leave-requires-clause-grows
leave-requires-clause-grows g c =
    let e = c.enter-turn.ensures in
    let t = c.enter-turn.result.0 in
    let n = c.enter-turn.result.1 in
    let adds : Adding n (turned t c.close_session.new.self) = adding_step c.args.visit t e.enters n e.session (close_step (history_of t.value) n) c.close_session.new.self
    (c.close_session.ensures ∙ ap (λ (x : Booked). after_step x (close_step (history_of x) n)) c.value.ensures.value) (close_own (history_of t.value) n) in
    subst (λ (b : Booked). IsPrefix t.seat.front (lines_of b)) (sym c.value-2.ensures.value) (adding_grows n (turned t c.close_session.new.self) adds)

pub leave-requires-clause-own : goal.leave-requires-clause-own
leave-requires-clause-own g c =
    let e = c.enter-turn.ensures in
    let t = c.enter-turn.result.0 in
    let n = c.enter-turn.result.1 in
    let adds : Adding n (turned t c.close_session.new.self) = adding_step c.args.visit t e.enters n e.session (close_step (history_of t.value) n) c.close_session.new.self
    (c.close_session.ensures ∙ ap (λ (x : Booked). after_step x (close_step (history_of x) n)) c.value.ensures.value) (close_own (history_of t.value) n) in
    subst (λ (b : Booked). IsOwnFrom seat_of (lines_of b) (length t.seat.front) t.seat.number) (sym c.value-2.ensures.value) (adding_own n (turned t c.close_session.new.self) adds)

pub returns : goal.returns
returns g c =
    let e = c.enter-turn.ensures in
    let t = c.enter-turn.result.0 in
    let s = c.leave.ensures.seat in
    let later = c.events-events.ensures in
    let is : c.value-2.result.now ≡ after_step t.value (close_step (history_of t.value) c.args.visit.session) =
    c.value-2.ensures.value ∙ c.close_session.ensures ∙ ap (λ (x : Booked). after_step x (close_step (history_of x) c.enter-turn.result.1)) c.value.ensures.value
    ∙ ap (λ (m : ℕ). after_step t.value (close_step (history_of t.value) m)) e.session in
    visit_closed c.args.visit t e.enters c.requires.may c.value-2.result.now is c.leave.result (ap (λ (k : Known Line). k.front) s) (ap (λ (k : Known Line). k.number) s)
    (ap (λ (k : Known Line). k.lock) s) later.within later.legal later.documents
