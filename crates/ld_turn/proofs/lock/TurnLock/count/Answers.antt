use Rattle.std.proofs.Common.{rules, ap, ◌∙◌, arith, length}
use Rattle.ld_turn.proofs.Numbering.{counts}
use Rattle.ld_turn.proofs.Sitting.{sits_more}
use Rattle.ld_turn.proofs.lock.TurnLock.count.Goals as goal

pub load-requires : goal.load-requires
load-requires g c = (search rules, search rules, counts g.V.Told.list g.V.Told.seat_of _ _ _ c.seat.invariant.0.idle)

pub invariant_of-seat : goal.invariant_of-seat
invariant_of-seat g c =
    let i = c.seat.invariant in
    let t = c.load.ensures.2 in
    let w = t.2 in (
      record { idle = ap (λ d. d.stage) w ∙ i.0.idle; empty = t.0 ∙ i.0.empty },
      sits_more _ _ _ i.1 (ap (λ d. d.seats) w ∙ i.1.one) (ap (λ d. d.number) w) (omega (arith, ap (λ d. d.made) w, t.1, i.1.few)) (omega (arith, ap (λ d. d.made) w)) (ap (λ d. d.own) w) (omega (arith, ap (λ d. length d.front) w)),
    )
