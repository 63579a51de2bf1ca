use Rattle.std.proofs.Common.{length, sym, ap, subst}
use mathlib.Core.List.{IsPrefix}
use Rattle.ld_turn.specs.History.{IsOwnFrom}
use Rattle.ld_turn.specs.Known.{Known}
use Rattle.ld_book.specs.Pages.{Booked}
use Rattle.ld_book.specs.Seats.{lines_of, seat_of}
use Rattle.ld_book.specs.declared.page.Line.{Line}
use Rattle.ld_visit.proofs.Leaving.{adding_grows, adding_own, left, left_opened}
use Rattle.ld_visit.proofs.visit.Visit.leave.Goals as goal

pub leave-seat-requires-clause-grows : goal.leave-seat-requires-clause-grows
leave-seat-requires-clause-grows c =
    subst (λ (b : Booked). IsPrefix c.args.turn.seat.front (lines_of b)) (sym c.value.ensures.value) (adding_grows c.args.session c.args.turn c.requires.adding)

pub leave-seat-requires-clause-own : goal.leave-seat-requires-clause-own
leave-seat-requires-clause-own c =
    subst (λ (b : Booked). IsOwnFrom seat_of (lines_of b) (length c.args.turn.seat.front) c.args.turn.seat.number) (sym c.value.ensures.value) (adding_own c.args.session c.args.turn c.requires.adding)

pub invariant_of-result : goal.invariant_of-result
invariant_of-result c =
    let s = c.leave-seat.ensures.seat in
    left_opened c.args.session c.args.turn c.requires.adding c.value.result.now c.value.ensures.value c.leave-seat.result (ap (λ (k : Known Line). k.front) s) (ap (λ (k : Known Line). k.number) s)

pub returns : goal.returns
returns c =
    let s = c.leave-seat.ensures.seat in
    let e = c.events-events.ensures in
    left c.args.session c.args.turn c.requires.adding c.value.result.now c.value.ensures.value c.leave-seat.result (ap (λ (k : Known Line). k.front) s) (ap (λ (k : Known Line). k.number) s)
    (ap (λ (k : Known Line). k.lock) s) e.within e.legal e.documents
