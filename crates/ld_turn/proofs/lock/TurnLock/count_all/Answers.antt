use Rattle.std.proofs.Common.{rules, refl, ◌≡◌, ap, ◌∙◌, arith}
use Rattle.std.proofs.lemmas.List.Elements.{length_all_zip}
use Rattle.std.proofs.lemmas.List.Quantifiers.{any-set}
use Rattle.ld_turn.specs.Known.{IsRecounted}
use Rattle.ld_turn.proofs.Rows.{zip_self, zip_recount, found_more, locks_stay}
use Rattle.ld_turn.proofs.lock.TurnLock.count_all.Goals as goal

pub loop-i-init : goal.loop-i-init
loop-i-init g c = (omega arith, search rules, zip_self IsRecounted (λ s. (refl, omega arith)) _, λ k d lt. absurd (omega (arith, lt)))

pub count-made-requires : goal.count-made-requires
count-made-requires g c =
    let i = c.loop-i.invariant in
    let long = length_all_zip IsRecounted _ _ i.2 in
    record { of_lock = ap (λ s. s.lock) c.index_mut.ensures.value ∙ locks_stay _ _ _ i.2 c.requires.of_lock c.loop-i.i _ (omega arith) }

pub returns-then-made-given-clause-same : goal.returns-then-made-given-clause-same
returns-then-made-given-clause-same g c =
    let i = c.loop-i.invariant in
    let long = length_all_zip IsRecounted _ _ i.2 in
    zip_recount _ _ c.loop-i.i _ c.index_mut.result.now _ i.2 (omega arith) c.index_mut.ensures.value c.count-made.ensures.made c.count-made.ensures.grows

pub returns-then-made-given-clause-others : goal.returns-then-made-given-clause-others
returns-then-made-given-clause-others g c =
    let i = c.loop-i.invariant in
    let long = length_all_zip IsRecounted _ _ i.2 in
    (omega arith, any-set (λ s. s.made ≡ c.count-made.result) _ c.loop-i.i _ (omega arith) (ap (λ s. s.made) c.count-made.ensures.made))

pub loop-i-preserved : goal.loop-i-preserved
loop-i-preserved g c =
    let i = c.loop-i.invariant in
    let long = length_all_zip IsRecounted _ _ i.2 in (
      omega arith,
      i.1,
      zip_recount _ _ c.loop-i.i _ c.index_mut.result.now _ i.2 (omega arith) c.index_mut.ensures.value c.count-made.ensures.made c.count-made.ensures.grows,
      found_more _ _ _ _ (omega arith) i.3 (ap (λ s. s.made) c.count-made.ensures.made ∙ omega arith),
    )
