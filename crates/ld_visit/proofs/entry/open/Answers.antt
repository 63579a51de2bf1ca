use Rattle.std.proofs.Common.{◌∙◌, length, sym, ap, subst}
use mathlib.Core.List.{IsPrefix}
use Rattle.ld_turn.specs.History.{IsOwnFrom}
use Rattle.ld_turn.specs.Known.{Known}
use Rattle.ld_book.specs.Pages.{Booked}
use Rattle.ld_book.specs.Seats.{Lines, lines_of, seat_of}
use Rattle.ld_book.specs.declared.page.Line.{Line}
use Rattle.ld_visit.proofs.Opening.{found_by, may_open_found, opened_left, opening_grows, opening_own, seat_refused, stands_left, visit_opened}
use Rattle.ld_visit.proofs.entry.open.Goals as goal

pub open_session-opened-requires : goal.open_session-opened-requires
open_session-opened-requires g c =
    let s = c.args.seat in
    let t = c.take-turn.ensures in
    let e = c.events-events.ensures in
    let f = found_by s c.take-turn.result.seat.front c.value.result.now c.value-2.result.now (ap lines_of c.value.ensures.value ∙ t.value) c.value-2.ensures.value t.front t.quiet e.within e.legal e.documents in
    may_open_found s c.value-2.result.now f c.requires.free c.number-number.result c.number-number.ensures.number c.number-number.ensures.few

pub leave-seat-requires-clause-grows : goal.leave-seat-requires-clause-grows
leave-seat-requires-clause-grows g c =
    let p = c.open_session-opened.ensures in
    let told = ap lines_of c.value-2.ensures.value ∙ ap lines_of c.value.ensures.value ∙ c.take-turn.ensures.value in
    subst (λ (b : Booked). IsPrefix c.take-turn.result.seat.front (lines_of b)) (sym c.value-3.ensures.value)
    (subst (λ (l : Lines). IsPrefix l (lines_of c.open_session-opened.new.self)) told
    (opening_grows c.value-2.result.now c.open_session-opened.new.self c.number-number.result c.open_session-opened.result p.appended p.unchanged))

pub leave-seat-requires-clause-own : goal.leave-seat-requires-clause-own
leave-seat-requires-clause-own g c =
    let p = c.open_session-opened.ensures in
    let t = c.take-turn.ensures in
    let e = c.events-events-2.ensures in
    let told = ap lines_of c.value-2.ensures.value ∙ ap lines_of c.value.ensures.value ∙ t.value in
    let number = c.number-number.ensures.number ∙ sym (ap (λ (k : Known Line). k.number) t.seat) in
    subst (IsOwnFrom seat_of (lines_of c.value-3.result.now) (length c.take-turn.result.seat.front)) number
    (subst (λ (l : Lines). IsOwnFrom seat_of (lines_of c.value-3.result.now) (length l) c.number-number.result) told
    (opening_own c.value-2.result.now c.open_session-opened.new.self c.value-3.result.now c.value-3.ensures.value c.number-number.result c.open_session-opened.result e.legal p.opened p.appended p.unchanged))

pub invariant_of-result : goal.invariant_of-result
invariant_of-result g c =
    let p = c.in-Ok.ensures in
    let s = c.leave-seat.ensures.seat in
    opened_left c.args.seat c.leave-seat.result c.value-2.result.now c.value-3.result.now (ap (λ (k : Known Line). k.front) s)
    (ap (λ (k : Known Line). k.number) s ∙ ap (λ (k : Known Line). k.number) c.take-turn.ensures.seat) c.number-number.result c.number-number.ensures.number
    c.in-Ok.session c.events-events-2.ensures.legal p.opened (c.value-3.ensures.value ∙ p.appended)

pub returns-in-Ok-clause-opened : goal.returns-in-Ok-clause-opened
returns-in-Ok-clause-opened g c =
    let s = c.args.seat in
    let t = c.take-turn.ensures in
    let e = c.events-events.ensures in
    let later = c.events-events-2.ensures in
    let p = c.in-Ok.ensures in
    let left = c.leave-seat.ensures.seat in
    let f = found_by s c.take-turn.result.seat.front c.value.result.now c.value-2.result.now (ap lines_of c.value.ensures.value ∙ t.value) c.value-2.ensures.value t.front t.quiet e.within e.legal e.documents in
    visit_opened s c.leave-seat.result c.value-2.result.now c.value-3.result.now (ap (λ (k : Known Line). k.front) left)
    (ap (λ (k : Known Line). k.number) left ∙ ap (λ (k : Known Line). k.number) t.seat) c.number-number.result c.number-number.ensures.number
    c.in-Ok.session later.legal p.opened (c.value-3.ensures.value ∙ p.appended) f (ap (λ (k : Known Line). k.lock) left ∙ ap (λ (k : Known Line). k.lock) t.seat) later.within later.documents

pub returns-in-Ok-clause-idle : goal.returns-in-Ok-clause-idle
returns-in-Ok-clause-idle g c =
    let p = c.in-Ok.ensures in
    let s = c.leave-seat.ensures.seat in
    stands_left c.args.seat c.leave-seat.result c.value-2.result.now c.value-3.result.now (ap (λ (k : Known Line). k.front) s)
    (ap (λ (k : Known Line). k.number) s ∙ ap (λ (k : Known Line). k.number) c.take-turn.ensures.seat) c.number-number.result c.number-number.ensures.number
    c.in-Ok.session c.events-events-2.ensures.legal p.opened (c.value-3.ensures.value ∙ p.appended)

pub returns-in-Err-clause-refused : goal.returns-in-Err-clause-refused
returns-in-Err-clause-refused g c =
    let s = c.args.seat in
    let t = c.take-turn.ensures in
    let e = c.events-events.ensures in
    let p = c.in-Err.ensures in
    let left = c.leave-seat.ensures.seat in
    let f = found_by s c.take-turn.result.seat.front c.value.result.now c.value-2.result.now (ap lines_of c.value.ensures.value ∙ t.value) c.value-2.ensures.value t.front t.quiet e.within e.legal e.documents in
    seat_refused s c.leave-seat.result c.value-2.result.now c.value-3.result.now (ap (λ (k : Known Line). k.front) left)
    (ap (λ (k : Known Line). k.number) left ∙ ap (λ (k : Known Line). k.number) t.seat) c.number-number.result c.number-number.ensures.number
    c.in-Err.refusal p.refused (c.value-3.ensures.value ∙ p.unchanged) f c.requires.free (ap (λ (k : Known Line). k.lock) left ∙ ap (λ (k : Known Line). k.lock) t.seat)
