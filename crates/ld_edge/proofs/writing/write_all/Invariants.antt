use Rattle.std.proofs.Common.{◌≡◌, ◌-◌, ◌≤◌, length, take}
use Rattle.ld_edge.specs.Passing.{Goes}
use Rattle.ld_edge.proofs.writing.write_all.Given as goal

-- so many bytes went out
abbrev pub invariant-loop-done : goal.invariant-loop-done
invariant-loop-done g l =
    let sink = g.K.Sink in
    (l.done ≤ length l.bytes) × Goes (sink.outgoing l.initial.sink) (sink.outgoing l.sink) (take l.done l.bytes)
    × ((sink.outgoing l.sink).faults ≡ (sink.outgoing l.initial.sink).faults) × (sink.beside l.sink ≡ sink.beside l.initial.sink)

abbrev pub decreases-loop-done : goal.decreases-loop-done
decreases-loop-done g l = length l.bytes - l.done
