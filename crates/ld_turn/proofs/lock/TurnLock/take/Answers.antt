use Rattle.std.proofs.Common.{rules, ◌≡◌, ap, sym, ◌∙◌, ◌∷◌, Some, None, length, arith}
use Rattle.atomic_table.specs.Table.{rest}
use Rattle.ld_turn.specs.Views.{known_of, is_holding}
use Rattle.ld_turn.proofs.Small.{prefix_length}
use Rattle.ld_turn.proofs.Sitting.{sits_still, sits_more}
use Rattle.ld_turn.proofs.Turning.{draws, looks}
use Rattle.ld_turn.proofs.lock.TurnLock.take.Goals as goal

pub fetch_add-ticket-requires : goal.fetch_add-ticket-requires
fetch_add-ticket-requires g c = let i = c.seat.invariant in (search rules, search rules, draws g.V.Told.list g.V.Told.seat_of _ _ _ i.0.idle i.1.one)

pub loop-init : goal.loop-init
loop-init g c =
    let i = c.seat.invariant in
    let t = c.fetch_add-ticket.ensures.2 in
    let w = t.1.2 in (
      ap (λ d. known_of c.fetch_add-ticket.new.seat.table_id d) w ∙ (ap (λ z. known_of z c.seat.inside.seat.me.0) c.fetch_add-ticket.ensures.0 ∙ c.seat.view_is),
      t.0 ∙ i.0.empty,
      (t.1.0, t.1.1, ap (λ d. d.stage) w),
      sits_still _ _ _ i.1 (ap (λ d. d.seats) w) (ap (λ d. d.number) w) (ap (λ d. d.made) w) (ap (λ d. d.own) w) (ap (λ d. d.front) w),
    )

pub load-serving-requires : goal.load-serving-requires
load-serving-requires g c = let i = c.loop.invariant in (search rules, search rules, looks g.V.Told.list g.V.Told.seat_of _ _ _ i.2.0 i.2.2 i.3.one)

pub exchange-requires : goal.exchange-requires
exchange-requires g c =
    let i = c.loop.invariant in
    let h = (c.load-serving.ensures.2 i.2.0 i.2.2).0 (c.if-serving-ticket.true ∙ i.2.1) in
    (search rules, (Some h.0, h.1 ∙ ap (λ l. (0, Some h.0) ∷ rest l) (sym h.1)))

pub invariant_of-result : goal.invariant_of-result
invariant_of-result g c =
    let i = c.loop.invariant in
    let h = (c.load-serving.ensures.2 i.2.0 i.2.2).0 (c.if-serving-ticket.true ∙ i.2.1) in
    let x = c.exchange.ensures.3 in
    let w = ap (λ m. m.0) x ∙ h.2 in (
      record {
        holds = ap (λ d. is_holding d.stage) w;
        slot = ap (λ m. m.1) x ∙ (ap (λ l. (0, None) ∷ rest l) h.1 ∙ ap (λ l. (0, None) ∷ l) i.1);
      },
      sits_more _ _ _ i.3 (ap (λ d. d.seats) w ∙ i.3.one) (ap (λ d. d.number) w) (omega (arith, ap (λ d. d.made) w)) (omega (arith, ap (λ d. d.made) w, i.3.few)) (ap (λ d. d.own) w)
          (omega (arith, prefix_length _ _ h.3, ap (λ d. length d.front) w)),
      search rules,
    )

pub returns-then-serving-ticket-clause-quiet : goal.returns-then-serving-ticket-clause-quiet
returns-then-serving-ticket-clause-quiet g c =
    let i = c.loop.invariant in
    let h = (c.load-serving.ensures.2 i.2.0 i.2.2).0 (c.if-serving-ticket.true ∙ i.2.1) in
    let w = ap (λ m. m.0) c.exchange.ensures.3 ∙ h.2 in
    let front : c.exchange.new.seat.me.0.front ≡ g.V.Told.list h.0 = ap (λ d. d.front) w in
    let one = i.3.one in
    let own = h.4 (omega arith) in
    λ j from lt is.
    let there = own.all j (omega (arith, ap length front)) (ap (λ l. g.V.Told.seat_of l j) (sym front) ∙ (is ∙ ap (λ k. Some k.number) (sym i.0))) in
    absurd (omega (arith, i.3.within j there, ap (λ k. length k.front) i.0))
