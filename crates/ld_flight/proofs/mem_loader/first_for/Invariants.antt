use Rattle.std.proofs.Common.{◌≡◌, [], take}
use Rattle.ld_flight.specs.Memory.{answers_for}
use Rattle.ld_flight.proofs.mem_loader.first_for.Given as goal

abbrev pub invariant-loop-at : goal.invariant-loop-at
invariant-loop-at l = answers_for l.iri (take l.at l.answers) ≡ []
