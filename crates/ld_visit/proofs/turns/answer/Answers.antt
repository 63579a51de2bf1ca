use Rattle.std.proofs.Common.{◌≡◌, ◌∙◌, ℕ, true, sym, ap, subst}
use Rattle.std.specs.Prelude.{is_some}
use Rattle.ld_history.specs.Steps.{answer_step}
use Rattle.ld_book.specs.Pages.{Booked, after_step, history_of}
use Rattle.ld_visit.specs.Taking.{Takes}
use Rattle.ld_visit.proofs.Allowing.{answer_found}
use Rattle.ld_visit.proofs.Leaving.{adding_step, took_by}
use Rattle.ld_visit.proofs.Owning.{answer_own, taken_some}
use Rattle.ld_visit.proofs.turns.answer.Goals as goal

pub answered-requires : goal.answered-requires
answered-requires g c =
    let v = c.args.visit in
    let e = c.enter-turn.ensures in
    let b = c.enter-turn.result.0.value in
    let may : is_some (answer_step (history_of b) v.session c.args.how) ≡ true = answer_found v.session v.limits v.pages b e.enters.finds c.args.how c.requires.may in
    subst (λ (x : Booked). is_some (answer_step (history_of x) c.enter-turn.result.1 c.args.how) ≡ true) (sym c.value.ensures.value)
    (subst (λ (n : ℕ). is_some (answer_step (history_of b) n c.args.how) ≡ true) (sym e.session) may)

pub leave-requires-clause-adding : goal.leave-requires-clause-adding
leave-requires-clause-adding g c =
    let e = c.enter-turn.ensures in
    let b = c.enter-turn.result.0.value in
    let n = c.enter-turn.result.1 in
    adding_step c.args.visit c.enter-turn.result.0 e.enters n e.session (answer_step (history_of b) n c.args.how) c.answered.new.self
    (c.answered.ensures ∙ ap (λ (x : Booked). after_step x (answer_step (history_of x) n c.args.how)) c.value.ensures.value) (answer_own (history_of b) n c.args.how)

pub returns : goal.returns
returns g c =
    let v = c.args.visit in
    let e = c.enter-turn.ensures in
    let b = c.enter-turn.result.0.value in
    let n = c.enter-turn.result.1 in
    let is : c.answered.new.self ≡ after_step b (answer_step (history_of b) n c.args.how) =
    c.answered.ensures ∙ ap (λ (x : Booked). after_step x (answer_step (history_of x) n c.args.how)) c.value.ensures.value in
    let some = taken_some (answer_step (history_of b) v.session c.args.how) (answer_found v.session v.limits v.pages b e.enters.finds c.args.how c.requires.may) in
    took_by v c.enter-turn.result.0 e.enters n e.session c.answered.new.self c.leave.result c.leave.ensures (ap (λ (x : Booked). x.limits) is)
    (Takes (λ found. answer_step (history_of found) v.session c.args.how))
    (some.0, some.1, ap (λ (x : Booked). x.pages) is ∙ ap (λ (m : ℕ). (after_step b (answer_step (history_of b) m c.args.how)).pages) e.session)
