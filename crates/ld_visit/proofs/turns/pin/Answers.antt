use Rattle.std.proofs.Common.{◌≡◌, ℕ, true, sym, subst, ◌||◌}
use Rattle.ld_history.specs.Rules.{may_pin_again, on_session}
use Rattle.ld_history.specs.Steps.{pin_step}
use Rattle.ld_history.specs.Words.{is_idle}
use Rattle.ld_book.specs.Pages.{Booked, history_of, state_of}
use Rattle.ld_visit.proofs.Allowing.{pin_found}
use Rattle.ld_visit.proofs.Leaving.{took_by}
use Rattle.ld_visit.proofs.Owning.{pin_own}
use Rattle.ld_visit.proofs.Pinning.{adding_or, pin_took}
use Rattle.ld_visit.specs.Taking.{Pins}
use Rattle.ld_visit.proofs.turns.pin.Goals as goal

pub pin-pinned-requires : goal.pin-pinned-requires
pin-pinned-requires g c =
    let v = c.args.visit in
    let e = c.enter-turn.ensures in
    let b = c.enter-turn.result.0.value in
    let may : on_session (state_of b) v.session (λ s. is_idle s.last || may_pin_again (state_of b) s.last) ≡ true = pin_found v.session v.limits v.pages b e.enters.finds c.requires.may in
    subst (λ (x : Booked). on_session (state_of x) c.enter-turn.result.1 (λ s. is_idle s.last || may_pin_again (state_of x) s.last) ≡ true) (sym c.value.ensures.value)
    (subst (λ (n : ℕ). on_session (state_of b) n (λ s. is_idle s.last || may_pin_again (state_of b) s.last) ≡ true) (sym e.session) may)

pub leave-requires-clause-adding : goal.leave-requires-clause-adding
leave-requires-clause-adding g c =
    let e = c.enter-turn.ensures in
    let n = c.enter-turn.result.1 in
    adding_or c.args.visit c.enter-turn.result.0 e.enters n e.session (λ x. pin_step (history_of x) n) c.value.result.now c.value.ensures.value c.pin-pinned.new.self c.pin-pinned.result
    c.pin-pinned.ensures.appended c.pin-pinned.ensures.unchanged (pin_own (history_of c.enter-turn.result.0.value) n)

pub returns : goal.returns
returns g c =
    let v = c.args.visit in
    let e = c.enter-turn.ensures in
    let b = c.enter-turn.result.0.value in
    let n = c.enter-turn.result.1 in
    let p = c.pin-pinned.ensures in
    let h = pin_took c.value.result.now b c.value.ensures.value n v.session e.session c.pin-pinned.new.self c.pin-pinned.result p.pinned p.refused p.appended p.unchanged p.stock in
    took_by v c.enter-turn.result.0 e.enters n e.session c.pin-pinned.new.self c.leave.result c.leave.ensures h.0 (Pins v.session c.pin-pinned.result) h.1
