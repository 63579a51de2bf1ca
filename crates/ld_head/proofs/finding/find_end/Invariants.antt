use Rattle.ld_head.proofs.Passing.{Passed}
use Rattle.ld_head.proofs.finding.find_end.Given as goal

abbrev pub invariant-loop-i : goal.invariant-loop-i
invariant-loop-i l = Passed l.seen l.initial.place l.piece l.i l.place
