use Rattle.std.proofs.Common.{◌≡◌, ◌∙◌, ℕ, true, sym, ap, subst}
use Rattle.ld_history.specs.Legal.{state}
use Rattle.ld_history.specs.Rules.{may_lapse}
use Rattle.ld_history.specs.Steps.{lapse_step}
use Rattle.ld_book.specs.Pages.{Booked, after_step, entries_of, history_of, state_of}
use Rattle.ld_visit.specs.Taking.{Takes}
use Rattle.ld_visit.proofs.Landing.{flying_found, lapse_own, lapse_taken}
use Rattle.ld_visit.proofs.Leaving.{adding_step, took_by}
use Rattle.ld_visit.proofs.Owning.{Own, taken_some}
use Rattle.ld_visit.proofs.flights.lapse.Goals as goal

pub lapse-requires : goal.lapse-requires
lapse-requires g c =
    let v = c.args.visit in
    let e = c.enter-turn.ensures in
    let b = c.enter-turn.result.0.value in
    subst (λ (x : Booked). may_lapse (state_of x) c.args.pass.number ≡ true) (sym c.value.ensures.value) (flying_found v.session v.limits v.pages b e.enters.finds c.args.pass c.requires.may)

pub leave-requires-clause-adding : goal.leave-requires-clause-adding
leave-requires-clause-adding g c =
    let v = c.args.visit in
    let e = c.enter-turn.ensures in
    let b = c.enter-turn.result.0.value in
    let n = c.enter-turn.result.1 in
    adding_step v c.enter-turn.result.0 e.enters n e.session (lapse_step (history_of b) c.args.pass.number) c.lapse.new.self
    (c.lapse.ensures ∙ ap (λ (x : Booked). after_step x (lapse_step (history_of x) c.args.pass.number)) c.value.ensures.value)
    (subst (λ (m : ℕ). Own m (state (entries_of b.pages)) (lapse_step (history_of b) c.args.pass.number)) (sym e.session) (lapse_own v.session v.limits v.pages b e.enters.finds c.args.pass c.requires.may))

pub returns : goal.returns
returns g c =
    let v = c.args.visit in
    let e = c.enter-turn.ensures in
    let b = c.enter-turn.result.0.value in
    let n = c.enter-turn.result.1 in
    let is : c.lapse.new.self ≡ after_step b (lapse_step (history_of b) c.args.pass.number) =
    c.lapse.ensures ∙ ap (λ (x : Booked). after_step x (lapse_step (history_of x) c.args.pass.number)) c.value.ensures.value in
    let some = taken_some (lapse_step (history_of b) c.args.pass.number) (lapse_taken v.session v.limits v.pages b e.enters.finds c.args.pass c.requires.may) in
    took_by v c.enter-turn.result.0 e.enters n e.session c.lapse.new.self c.leave.result c.leave.ensures (ap (λ (x : Booked). x.limits) is) (Takes (λ found. lapse_step (history_of found) c.args.pass.number))
    (some.0, some.1, ap (λ (x : Booked). x.pages) is)
