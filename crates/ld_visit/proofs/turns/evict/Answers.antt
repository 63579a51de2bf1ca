use Rattle.std.proofs.Common.{◌≡◌, ℕ, true, sym, subst}
use Rattle.ld_history.specs.Rules.{has_pinned}
use Rattle.ld_history.specs.Steps.{evict_step}
use Rattle.ld_book.specs.Pages.{Booked, history_of, state_of}
use Rattle.ld_book.specs.Said.{told_evict}
use Rattle.ld_visit.specs.Taking.{TakesOr}
use Rattle.ld_visit.proofs.Leaving.{took_by}
use Rattle.ld_visit.proofs.Pinning.{adding_or}
use Rattle.ld_visit.proofs.Wanting.{evict_own, pinned_found, taken_or}
use Rattle.ld_visit.proofs.turns.evict.Goals as goal

pub evict-evicted-requires : goal.evict-evicted-requires
evict-evicted-requires g c =
    let v = c.args.visit in
    let e = c.enter-turn.ensures in
    let b = c.enter-turn.result.0.value in
    subst (λ (x : Booked). has_pinned (state_of x) c.enter-turn.result.1 ≡ true) (sym c.value.ensures.value)
    (subst (λ (n : ℕ). has_pinned (state_of b) n ≡ true) (sym e.session) (pinned_found v.session v.limits v.pages b e.enters.finds c.requires.may))

pub leave-requires-clause-adding : goal.leave-requires-clause-adding
leave-requires-clause-adding g c =
    let e = c.enter-turn.ensures in
    let n = c.enter-turn.result.1 in
    adding_or c.args.visit c.enter-turn.result.0 e.enters n e.session (λ x. evict_step (history_of x) n c.args.iri.now) c.value.result.now c.value.ensures.value c.evict-evicted.new.self c.evict-evicted.result
    c.evict-evicted.ensures.appended c.evict-evicted.ensures.unchanged (evict_own (history_of c.enter-turn.result.0.value) n c.args.iri.now)

pub returns : goal.returns
returns g c =
    let v = c.args.visit in
    let e = c.enter-turn.ensures in
    let n = c.enter-turn.result.1 in
    let p = c.evict-evicted.ensures in
    let h = taken_or told_evict (λ m x. evict_step (history_of x) m c.args.iri.now) c.value.result.now c.enter-turn.result.0.value c.value.ensures.value n v.session e.session c.evict-evicted.new.self c.evict-evicted.result
    p.answered p.appended p.unchanged in
    took_by v c.enter-turn.result.0 e.enters n e.session c.evict-evicted.new.self c.leave.result c.leave.ensures h.0
    (TakesOr told_evict (λ found. evict_step (history_of found) v.session c.args.iri.now) c.evict-evicted.result) h.1
