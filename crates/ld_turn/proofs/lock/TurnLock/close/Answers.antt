use Rattle.std.proofs.Common.{refl, ◌≡◌, ap, sym, subst, ◌∙◌, arith, Some, All, length}
use Rattle.std.proofs.lemmas.List.Elements.{length_all_zip}
use mathlib.Core.Option.{some-injective}
use Rattle.ld_turn.specs.Known.{AllSaw, IsRecounted, Known}
use Rattle.ld_turn.proofs.Rows.{locks_stay, found_before, fronts_before, some_of}
use Rattle.ld_turn.proofs.Numbering.{last}
use Rattle.ld_turn.proofs.lock.TurnLock.close.Goals as goal

pub join_all-requires-clause-of_lock : goal.join_all-requires-clause-of_lock
join_all-requires-clause-of_lock g c = locks_stay _ _ _ c.count_all.ensures.same c.requires.of_lock

pub join_all-requires-clause-counted : goal.join_all-requires-clause-counted
join_all-requires-clause-counted g c = subst (λ n. All (λ (k : Known g.row.V-Entry.Denot). k.made ≡ n) c.count_all.new.seats.items) (length_all_zip IsRecounted _ _ c.count_all.ensures.same) c.in_default.ensures.these

pub unwrap-all-requires : goal.unwrap-all-requires
unwrap-all-requires g c =
    let long = length_all_zip IsRecounted _ _ c.count_all.ensures.same in
    some_of _ _ _ c.join_all.ensures (λ none. absurd (omega (arith, ap length none)))

pub unwrap-value-requires : goal.unwrap-value-requires
unwrap-value-requires g c =
    let j = rw c.unwrap-all.ensures at c.join_all.ensures in
    let long = length_all_zip IsRecounted _ _ c.count_all.ensures.same in
    let l = last g.V.Told.list g.V.Told.seat_of _ _ _ c.unwrap-all.result.me.0 j.idle (omega (arith, j.count)) (j.found ∙ sym j.count) c.close_with-closed.ensures.values.2 in
    let is : c.take.result ≡ Some l.0 = some-injective _ _ (sym c.take.ensures.value ∙ l.1) in
    rw is refl

pub returns-clause-fronts : goal.returns-clause-fronts
returns-clause-fronts g c =
    let j = rw c.unwrap-all.ensures at c.join_all.ensures in
    let long = length_all_zip IsRecounted _ _ c.count_all.ensures.same in
    let l = last g.V.Told.list g.V.Told.seat_of _ _ _ c.unwrap-all.result.me.0 j.idle (omega (arith, j.count)) (j.found ∙ sym j.count) c.close_with-closed.ensures.values.2 in
    let is : c.take.result ≡ Some l.0 = some-injective _ _ (sym c.take.ensures.value ∙ l.1) in
    let both : Some l.0 ≡ Some c.unwrap-value.result = sym is ∙ c.unwrap-value.ensures in
    let same : l.0 ≡ c.unwrap-value.result = cc both in
    fronts_before _ _ _ c.count_all.ensures.same (subst (λ v. AllSaw (g.V.Told.list v) c.count_all.new.seats.items) same (j.fronts (g.V.Told.list l.0) l.2))

pub returns-clause-whole : goal.returns-clause-whole
returns-clause-whole g c = (omega arith, found_before _ _ _ c.count_all.ensures.same c.in_default.ensures.these)
