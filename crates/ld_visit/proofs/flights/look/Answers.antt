use Rattle.std.proofs.Common.{◌≡◌, true, sym, ap, subst, Some}
use Rattle.std.specs.Option.{option_map}
use Rattle.std.specs.Prelude.{is_some}
use Rattle.ld_history.specs.Rules.{end_of}
use Rattle.ld_history.specs.Words.{flight_at}
use Rattle.ld_book.specs.Pages.{Booked, state_of}
use Rattle.ld_book.specs.Said.{told_end}
use Rattle.ld_visit.specs.Taking.{Looks}
use Rattle.ld_visit.proofs.Landing.{led_before}
use Rattle.ld_visit.proofs.Leaving.{adding_none, took_by}
use Rattle.ld_visit.proofs.flights.look.Goals as goal

pub look-seen-requires : goal.look-seen-requires
look-seen-requires g c =
    let v = c.args.visit in
    let e = c.enter-turn.ensures in
    let b = c.enter-turn.result.0.value in
    subst (λ (x : Booked). is_some (flight_at (state_of x).flights c.args.flight) ≡ true) (sym c.value.ensures.value) (led_before v.session v.limits v.pages b e.enters.finds c.args.flight c.requires.led)

pub leave-requires-clause-adding : goal.leave-requires-clause-adding
leave-requires-clause-adding g c =
    let e = c.enter-turn.ensures in
    adding_none c.args.visit c.enter-turn.result.0 e.enters c.enter-turn.result.1 e.session c.value.result.now c.value.ensures.value

pub returns : goal.returns
returns g c =
    let e = c.enter-turn.ensures in
    let seen = subst (λ (x : Booked). option_map told_end (end_of (state_of x) c.args.flight) ≡ Some c.look-seen.result) c.value.ensures.value c.look-seen.ensures in
    took_by c.args.visit c.enter-turn.result.0 e.enters c.enter-turn.result.1 e.session c.value.result.now c.leave.result c.leave.ensures (ap (λ (x : Booked). x.limits) c.value.ensures.value)
    (Looks c.args.flight c.look-seen.result) (seen, ap (λ (x : Booked). x.pages) c.value.ensures.value)
