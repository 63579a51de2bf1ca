use Rattle.std.proofs.Common.{rules, sym, ◌≡◌, ap, ◌∙◌, ◌∷◌, Some, length, arith, subst}
use mathlib.Core.List.{IsPrefix}
use Rattle.atomic_table.specs.Table.{rest}
use Rattle.ld_turn.specs.declared.rule.Stage.TheVariants.{Idle}
use Rattle.ld_turn.specs.History.{IsOwnFrom, own_after}
use Rattle.ld_turn.specs.Known.{Turning}
use Rattle.ld_turn.specs.Views.{is_holding}
use Rattle.ld_turn.proofs.Small.{prefix_length}
use Rattle.ld_turn.proofs.Sitting.{sits_after, turned}
use Rattle.ld_turn.proofs.Turning.{tells, passes}
use Rattle.ld_turn.proofs.lock.TurnLock.leave.Goals as goal

pub fetch_add-requires : goal.fetch_add-requires
fetch_add-requires g c =
    let e = c.exchange.ensures.3 in
    let list = g.V.Told.list in
    let v = c.turn.inside.value in
    let i = c.turn.invariant in
    let found = i.2 in
    let told = c.told.ensures in
    let d = c.turn.inside.seat.me.0 in
    let seen : c.exchange.new.seat.me.0 ≡ d = ap (λ m. m.0) e in
    let grows : IsPrefix d.front (list v) = subst (λ (k : Turning g.row.V.Denot g.row.V-Entry.Denot). IsPrefix k.seat.front (list k.value)) (sym c.turn.view_is) c.requires.grows in
    let own : IsOwnFrom g.V.Told.seat_of (list v) (length d.front) d.number = subst (λ (k : Turning g.row.V.Denot g.row.V-Entry.Denot). IsOwnFrom g.V.Told.seat_of (list k.value) (length k.seat.front) k.seat.number) (sym c.turn.view_is) c.requires.own in
    let longer = prefix_length d.front (list v) grows in (
      search rules,
      search rules,
      tells list g.V.Told.seat_of g.met.V.Told.stays _ _ _ v _ (rw seen own) (ap (λ x. is_holding x.stage) seen ∙ i.0.holds) (ap (λ x. x.seats) seen ∙ i.1.one) (ap (λ m. m.1) e ∙ ap (λ l. (0, Some v) ∷ rest l) i.0.slot) (rw seen grows)
          (omega (arith, ap (λ x. length x.front) seen)) (omega arith),
    )

pub fetch_add-served-requires : goal.fetch_add-served-requires
fetch_add-served-requires g c =
    let e = c.exchange.ensures.3 in
    let v = c.turn.inside.value in
    let i = c.turn.invariant in
    let carried = ap (λ m. m.1) e ∙ ap (λ l. (0, Some v) ∷ rest l) i.0.slot in
    let t = c.fetch_add.ensures.2 v carried in (
      search rules,
      search rules,
      passes g.V.Told.list g.V.Told.seat_of _ _ _ v (ap (λ d. is_holding d.stage) t.1 ∙ (ap (λ m. is_holding m.0.stage) e ∙ i.0.holds)) (ap (λ d. d.seats) t.1 ∙ (ap (λ m. m.0.seats) e ∙ i.1.one)) (t.0 ∙ carried) (ap (λ d. d.front) t.1),
    )

pub invariant_of-result : goal.invariant_of-result
invariant_of-result g c =
    let e = c.exchange.ensures.3 in
    let list = g.V.Told.list in
    let v = c.turn.inside.value in
    let i = c.turn.invariant in
    let d = c.turn.inside.seat.me.0 in
    let seen : c.exchange.new.seat.me.0 ≡ d = ap (λ m. m.0) e in
    let t = c.fetch_add.ensures.2 v (ap (λ m. m.1) e ∙ ap (λ l. (0, Some v) ∷ rest l) i.0.slot) in
    let p = c.fetch_add-served.ensures.2 in
    let x = c.wake_two.ensures.same.1 in
    let grows : IsPrefix d.front (list v) = subst (λ (k : Turning g.row.V.Denot g.row.V-Entry.Denot). IsPrefix k.seat.front (list k.value)) (sym c.turn.view_is) c.requires.grows in
    let is : c.wake_two.new.seat.me.0 ≡ record d { stage = Idle; front = list v; own = own_after d.own d.front (list v) } =
    ap (λ m. m.0) x ∙ turned d _ _ _ (list v) seen t.1 p.1 in (
      record { idle = ap (λ q. q.stage) is; empty = ap (λ m. m.1) x ∙ p.0 },
      sits_after _ d _ (list v) i.1 (prefix_length d.front (list v) grows) is,
    )
