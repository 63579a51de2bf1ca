use Rattle.ld_work.specs.Gathering.{AreGathered}
use Rattle.ld_work.proofs.serving.gather.Given as goal

abbrev pub invariant-loop-shift : goal.invariant-loop-shift
invariant-loop-shift g l = AreGathered l.fn.first.book l.fn.first.library l.yielded l.all l.gathered
