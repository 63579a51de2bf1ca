use Rattle.std.proofs.Common.{rules, ap, inr, ◌∙◌, arith, length}
use Rattle.ld_turn.proofs.Numbering.{merges, meets}
use Rattle.ld_turn.proofs.Sitting.{sits_more}
use Rattle.ld_turn.proofs.Small.{prefix_length}
use Rattle.ld_turn.proofs.lock.TurnLock.meet.Goals as goal

pub join_seat-requires : goal.join_seat-requires
join_seat-requires g c =
    let i = c.seat.invariant in
    let n = c.note.invariant in
    let one = i.1.one in (
      search rules,
      search rules,
      n.0.empty,
      search rules,
      merges g.V.Told.list g.V.Told.seat_of _ _ _ _ (omega arith) i.0.idle n.0.idle (inr n.1),
    )

pub load-requires : goal.load-requires
load-requires g c = (search rules, search rules, meets g.V.Told.list g.V.Told.seat_of _ _ _ (ap (λ m. m.0.stage) c.join_seat.ensures.2 ∙ c.seat.invariant.0.idle))

pub invariant_of-seat : goal.invariant_of-seat
invariant_of-seat g c =
    let i = c.seat.invariant in
    let n = c.note.invariant in
    let j = c.join_seat.ensures.2 in
    let t = c.load.ensures.2 in
    let one = i.1.one in
    let none = n.1 in
    let was = ap (λ m. m.0) j in (
      record {
        idle = ap (λ d. d.stage) t.1 ∙ (ap (λ d. d.stage) was ∙ i.0.idle);
        empty = t.0 ∙ (ap (λ m. m.1) j ∙ i.0.empty);
      },
      sits_more _ _ _ i.1 (ap (λ d. d.seats) t.1 ∙ (ap (λ d. d.seats) was ∙ omega arith)) (ap (λ d. d.number) t.1 ∙ ap (λ d. d.number) was)
          (omega (arith, ap (λ d. d.made) t.1, ap (λ d. d.made) was)) (omega (arith, ap (λ d. d.made) t.1, ap (λ d. d.made) was, i.1.few)) (ap (λ d. d.own) t.1 ∙ ap (λ d. d.own) was)
          (omega (arith, prefix_length _ _ t.3, ap (λ d. length d.front) was)),
    )
