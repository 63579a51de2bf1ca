use Rattle.std.proofs.Common.{◌≡◌}
use Rattle.ld_items.proofs.Taken.{Took}
use Rattle.ld_items.proofs.heading.next_head.Given as goal

-- the bytes so far are those of the head that has begun
abbrev pub invariant-loop : goal.invariant-loop
invariant-loop g l =
    let source = g.S.Source in
    Took (source.incoming l.initial.source) (source.incoming l.source) l.initial.pending l.begun l.pending
    × ((source.incoming l.source).faults ≡ (source.incoming l.initial.source).faults) × (source.beside l.source ≡ source.beside l.initial.source)
