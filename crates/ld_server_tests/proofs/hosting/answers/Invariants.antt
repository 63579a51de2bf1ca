use Rattle.std.proofs.Common.{All}
use Rattle.ld_flight.specs.Memory.{IsShort}
use Rattle.ld_server_tests.proofs.hosting.answers.Given as goal

abbrev pub invariant-loop-iri : goal.invariant-loop-iri
invariant-loop-iri l = All IsShort l.answers.items
