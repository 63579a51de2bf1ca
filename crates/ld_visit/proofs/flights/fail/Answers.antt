use Rattle.std.proofs.Common.{◌≡◌, ◌∙◌, ℕ, true, sym, ap, subst}
use Rattle.ld_history.specs.Legal.{state}
use Rattle.ld_history.specs.Rules.{may_fail}
use Rattle.ld_history.specs.Steps.{fail_step}
use Rattle.ld_book.specs.Pages.{Booked, after_step, entries_of, history_of, state_of}
use Rattle.ld_visit.specs.Taking.{Takes}
use Rattle.ld_visit.proofs.Landing.{fail_found, fail_own, fail_taken}
use Rattle.ld_visit.proofs.Leaving.{adding_step, took_by}
use Rattle.ld_visit.proofs.Owning.{Own, taken_some}
use Rattle.ld_visit.proofs.flights.fail.Goals as goal

pub fail-requires-clause-allowed : goal.fail-requires-clause-allowed
fail-requires-clause-allowed g c =
    let v = c.args.visit in
    let r = c.args.refused in
    let e = c.enter-turn.ensures in
    let b = c.enter-turn.result.0.value in
    subst (λ (x : Booked). may_fail (state_of x) r.pass.number r.before r.after ≡ true) (sym c.value.ensures.value)
    (fail_found v.session v.limits v.pages b e.enters.finds r.pass c.requires.may r.before r.after c.requires.rose c.requires.last)

pub leave-requires-clause-adding : goal.leave-requires-clause-adding
leave-requires-clause-adding g c =
    let v = c.args.visit in
    let r = c.args.refused in
    let e = c.enter-turn.ensures in
    let b = c.enter-turn.result.0.value in
    let n = c.enter-turn.result.1 in
    adding_step v c.enter-turn.result.0 e.enters n e.session (fail_step (history_of b) r.pass.number r.before r.after) c.fail.new.self
    (c.fail.ensures ∙ ap (λ (x : Booked). after_step x (fail_step (history_of x) r.pass.number r.before r.after)) c.value.ensures.value)
    (subst (λ (m : ℕ). Own m (state (entries_of b.pages)) (fail_step (history_of b) r.pass.number r.before r.after)) (sym e.session)
    (fail_own v.session v.limits v.pages b e.enters.finds r.pass c.requires.may r.before r.after))

pub returns : goal.returns
returns g c =
    let v = c.args.visit in
    let r = c.args.refused in
    let e = c.enter-turn.ensures in
    let b = c.enter-turn.result.0.value in
    let n = c.enter-turn.result.1 in
    let is : c.fail.new.self ≡ after_step b (fail_step (history_of b) r.pass.number r.before r.after) =
    c.fail.ensures ∙ ap (λ (x : Booked). after_step x (fail_step (history_of x) r.pass.number r.before r.after)) c.value.ensures.value in
    let some = taken_some (fail_step (history_of b) r.pass.number r.before r.after)
    (fail_taken v.session v.limits v.pages b e.enters.finds r.pass c.requires.may r.before r.after c.requires.rose c.requires.last) in
    took_by v c.enter-turn.result.0 e.enters n e.session c.fail.new.self c.leave.result c.leave.ensures (ap (λ (x : Booked). x.limits) is)
    (Takes (λ found. fail_step (history_of found) r.pass.number r.before r.after)) (some.0, some.1, ap (λ (x : Booked). x.pages) is)
