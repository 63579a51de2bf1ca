use Rattle.std.proofs.Common.{◌-◌, ◌≤◌, length, take}
use Rattle.ld_once.specs.Runs.{Writes}
use Rattle.ld_once.proofs.output.write_whole.Given as goal

abbrev pub invariant-loop-done : goal.invariant-loop-done
invariant-loop-done g l = (l.done ≤ length l.text) × Writes (g.K.Sink.outgoing l.initial.output) (g.K.Sink.outgoing l.output) (take l.done l.text)

abbrev pub decreases-loop-done : goal.decreases-loop-done
decreases-loop-done g l = length l.text - l.done
