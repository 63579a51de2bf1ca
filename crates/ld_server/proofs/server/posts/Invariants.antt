use Rattle.std.proofs.Common.{◌≡◌, length}
use Rattle.ld_server.proofs.server.posts.Given as goal

abbrev pub invariant-loop : goal.invariant-loop
invariant-loop g l = length l.posts.items ≡ l.counter
