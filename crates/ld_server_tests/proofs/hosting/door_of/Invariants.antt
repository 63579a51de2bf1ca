use Rattle.std.proofs.Common.{All}
use Rattle.ld_edge.specs.Doors.{IsNew}
use Rattle.ld_server_tests.proofs.hosting.door_of.Given as goal

abbrev pub invariant-loop-stream : goal.invariant-loop-stream
invariant-loop-stream l = All IsNew l.links.items
