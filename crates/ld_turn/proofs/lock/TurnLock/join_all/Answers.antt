use Rattle.std.proofs.Common.{rules, inl, ◌≡◌, ap, ◌∙◌, ◌++◌, ◌∷◌, [], arith, length, subst, sym, All, append_assoc}
use Rattle.ld_turn.specs.Known.{Known}
use Rattle.ld_turn.proofs.Rows.{all_front, all_last, stands_more}
use Rattle.ld_turn.proofs.Numbering.{merges}
use Rattle.ld_turn.proofs.lock.TurnLock.join_all.Goals as goal

pub join_seat-requires : goal.join_seat-requires
join_seat-requires g c =
    let i = c.loop-next.invariant in
    let s = i.3 in
    let next = c.next.invariant in
    let Fits : Known g.row.V-Entry.Denot → Type 0 = λ k. (k.lock ≡ c.args.self.now) × (k.made ≡ length c.args.seats.items) in
    let mine : Fits c.in-Some.next = all_last Fits c.pop-in-loop-next.new.self.items c.in-Some.next (subst (All Fits) c.in-Some.ensures.items i.2) in (
      s.of_lock ∙ sym c.self.view_is,
      ap (λ k. k.lock) c.next.view_is ∙ (mine.0 ∙ sym c.self.view_is),
      next.0.empty,
      search rules,
      merges g.V.Told.list g.V.Told.seat_of _ _ _ _ (omega (arith, s.count, i.4)) s.idle next.0.idle (inl (s.found ∙ sym (ap (λ k. k.made) c.next.view_is ∙ mine.1))),
    )

pub loop-next-preserved : goal.loop-next-preserved
loop-next-preserved g c =
    let i = c.loop-next.invariant in
    let Fits : Known g.row.V-Entry.Denot → Type 0 = λ k. (k.lock ≡ c.args.self.now) × (k.made ≡ length c.args.seats.items) in
    let e = c.in-Some.ensures.items in
    let left = c.pop-in-loop-next.new.self.items in (
      c.in-Some.next ∷ i.0,
      i.1 ∙ (ap (λ l. l ++ i.0) e ∙ append_assoc left (c.in-Some.next ∷ []) i.0),
      all_front Fits left c.in-Some.next (subst (All Fits) e i.2),
      stands_more _ _ _ _ _ _ _ c.in-Some.next c.next.inside.seat.me.0 i.3 c.join_seat.ensures.0 c.join_seat.ensures.2 c.next.invariant.1.one (ap (λ k. k.front) c.next.view_is),
      omega arith,
    )
