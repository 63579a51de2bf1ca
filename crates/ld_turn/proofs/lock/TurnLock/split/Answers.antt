use Rattle.std.proofs.Common.{rules, ap, ◌∙◌, ◌<◌, ◌≤◌, arith, length}
use Rattle.ld_turn.proofs.Numbering.{asks, numbers, cuts}
use Rattle.ld_turn.proofs.Sitting.{sits_more}
use Rattle.ld_turn.proofs.lock.TurnLock.split.Goals as goal

pub load-requires : goal.load-requires
load-requires g c = let i = c.seat.invariant in (search rules, search rules, asks g.V.Told.list g.V.Told.seat_of _ _ _ i.0.idle i.1.one)

pub invariant_of-seat : goal.invariant_of-seat
invariant_of-seat g c =
    let i = c.seat.invariant in
    let t = c.load.ensures.2 in
    let high : 256 ≤ c.load.result = omega arith in
    let w = t.3 high in (
      record { idle = ap (λ d. d.stage) w ∙ i.0.idle; empty = t.0 ∙ i.0.empty },
      sits_more _ _ _ i.1 (ap (λ d. d.seats) w ∙ i.1.one) (ap (λ d. d.number) w) (omega (arith, ap (λ d. d.made) w, i.1.few)) (omega (arith, ap (λ d. d.made) w)) (ap (λ d. d.own) w) (omega (arith, ap (λ d. length d.front) w)),
    )

pub fetch_add-number-requires : goal.fetch_add-number-requires
fetch_add-number-requires g c =
    let i = c.seat.invariant in
    let low : c.load.result < 256 = omega arith in
    let e = c.load.ensures.2.2 low in
    (search rules, search rules, numbers g.V.Told.list g.V.Told.seat_of _ _ _ (ap (λ d. d.stage) e) (ap (λ d. d.seats) e ∙ i.1.one))

pub invariant_of-seat-then-number-ge-MOST : goal.invariant_of-seat-then-number-ge-MOST
invariant_of-seat-then-number-ge-MOST g c =
    let i = c.seat.invariant in
    let low : c.load.result < 256 = omega arith in
    let high : 256 ≤ c.fetch_add-number.result = omega arith in
    let a = c.load.ensures.2 in
    let e = a.2 low in
    let t = c.fetch_add-number.ensures.2 in
    let w = t.3 high in (
      record { idle = ap (λ d. d.stage) w; empty = t.0 ∙ (a.0 ∙ i.0.empty) },
      sits_more _ _ _ i.1 (ap (λ d. d.seats) w ∙ (ap (λ d. d.seats) e ∙ i.1.one)) (ap (λ d. d.number) w ∙ ap (λ d. d.number) e) (omega (arith, ap (λ d. d.made) w, i.1.few)) (omega (arith, ap (λ d. d.made) w)) (ap (λ d. d.own) w ∙ ap (λ d. d.own) e)
          (omega (arith, ap (λ d. length d.front) w, ap (λ d. length d.front) e)),
    )

pub split_seat-requires : goal.split_seat-requires
split_seat-requires g c =
    let low : c.fetch_add-number.result < 256 = omega arith in
    let e = c.fetch_add-number.ensures.2.2 low in
    (search rules, search rules, cuts g.V.Told.list g.V.Told.seat_of _ _ _ (ap (λ d. d.stage) e))

pub invariant_of-seat-2 : goal.invariant_of-seat-2
invariant_of-seat-2 g c =
    let i = c.seat.invariant in
    let low : c.load.result < 256 = omega arith in
    let less : c.fetch_add-number.result < 256 = omega arith in
    let a = c.load.ensures.2 in
    let e = a.2 low in
    let t = c.fetch_add-number.ensures.2 in
    let w = t.2 less in
    let s = c.split_seat.ensures.2 in
    let x = ap (λ m. m.0) s in (
      record { idle = ap (λ d. d.stage) x; empty = ap (λ m. m.1) s ∙ (t.0 ∙ (a.0 ∙ i.0.empty)) },
      sits_more _ _ _ i.1 (ap (λ d. d.seats) x ∙ (ap (λ d. d.seats) w ∙ (ap (λ d. d.seats) e ∙ i.1.one))) (ap (λ d. d.number) x ∙ (ap (λ d. d.number) w ∙ ap (λ d. d.number) e))
          (omega (arith, ap (λ d. d.made) x, ap (λ d. d.made) w, ap (λ d. d.made) e, t.1, a.1)) (omega (arith, ap (λ d. d.made) x, ap (λ d. d.made) w)) (ap (λ d. d.own) x ∙ (ap (λ d. d.own) w ∙ ap (λ d. d.own) e))
          (omega (arith, ap (λ d. length d.front) x, ap (λ d. length d.front) w, ap (λ d. length d.front) e)),
    )
