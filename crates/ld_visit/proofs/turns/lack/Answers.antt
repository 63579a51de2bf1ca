use Rattle.std.proofs.Common.{◌≡◌, ℕ, true, sym, subst}
use Rattle.ld_history.specs.Legal.{is_in_stock}
use Rattle.ld_history.specs.Rules.{on_session}
use Rattle.ld_history.specs.Steps.{lack_step, may_lack}
use Rattle.ld_book.specs.Pages.{Booked, entries_of, history_of, state_of}
use Rattle.ld_book.specs.Said.{told_lack}
use Rattle.ld_visit.specs.Taking.{TakesOr}
use Rattle.ld_visit.proofs.Leaving.{took_by}
use Rattle.ld_visit.proofs.Pinning.{adding_or}
use Rattle.ld_visit.proofs.Wanting.{lack_found, lack_own, taken_or}
use Rattle.ld_visit.proofs.turns.lack.Goals as goal

pub lack-lacked-requires : goal.lack-lacked-requires
lack-lacked-requires g c =
    let v = c.args.visit in
    let e = c.enter-turn.ensures in
    let b = c.enter-turn.result.0.value in
    let iri = c.args.iri.now in
    subst (λ (x : Booked). on_session (state_of x) c.enter-turn.result.1 (may_lack (is_in_stock (entries_of x.pages)) iri) ≡ true) (sym c.value.ensures.value)
    (subst (λ (n : ℕ). on_session (state_of b) n (may_lack (is_in_stock (entries_of b.pages)) iri) ≡ true) (sym e.session) (lack_found v.session v.limits v.pages b e.enters.finds iri c.requires.may))

pub leave-requires-clause-adding : goal.leave-requires-clause-adding
leave-requires-clause-adding g c =
    let e = c.enter-turn.ensures in
    let n = c.enter-turn.result.1 in
    adding_or c.args.visit c.enter-turn.result.0 e.enters n e.session (λ x. lack_step (history_of x) n c.args.iri.now) c.value.result.now c.value.ensures.value c.lack-lacked.new.self c.lack-lacked.result
    c.lack-lacked.ensures.appended c.lack-lacked.ensures.unchanged (lack_own (history_of c.enter-turn.result.0.value) n c.args.iri.now)

pub returns : goal.returns
returns g c =
    let v = c.args.visit in
    let e = c.enter-turn.ensures in
    let n = c.enter-turn.result.1 in
    let p = c.lack-lacked.ensures in
    let h = taken_or (told_lack c.args.iri.now) (λ m x. lack_step (history_of x) m c.args.iri.now) c.value.result.now c.enter-turn.result.0.value c.value.ensures.value n v.session e.session c.lack-lacked.new.self c.lack-lacked.result
    p.answered p.appended p.unchanged in
    took_by v c.enter-turn.result.0 e.enters n e.session c.lack-lacked.new.self c.leave.result c.leave.ensures h.0
    (TakesOr (told_lack c.args.iri.now) (λ found. lack_step (history_of found) v.session c.args.iri.now) c.lack-lacked.result) h.1
