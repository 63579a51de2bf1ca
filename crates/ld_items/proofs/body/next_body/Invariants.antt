use Rattle.std.proofs.Common.{◌≡◌, ◌-◌, ◌≤◌, vec_len}
use Rattle.ld_items.proofs.Taken.{Took}
use Rattle.ld_items.proofs.body.next_body.Given as goal

-- the bytes so far are those of the body
abbrev pub invariant-loop-pending : goal.invariant-loop-pending
invariant-loop-pending g l =
    let source = g.S.Source in
    (vec_len l.body ≤ l.length) × Took (source.incoming l.initial.source) (source.incoming l.source) l.initial.pending l.body.items l.pending
    × ((source.incoming l.source).faults ≡ (source.incoming l.initial.source).faults) × (source.beside l.source ≡ source.beside l.initial.source)

abbrev pub decreases-loop-pending : goal.decreases-loop-pending
decreases-loop-pending g l = l.length - vec_len l.body
