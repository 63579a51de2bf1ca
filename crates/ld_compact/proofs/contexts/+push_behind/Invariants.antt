use Rattle.std.proofs.Common.{length}
use Rattle.ld_compact.proofs.contexts.+push_behind.Given as goal

abbrev pub decreases-push_behind : goal.decreases-push_behind
decreases-push_behind g l = length (g.W.Kept.View.flat l.kept.now).before
