use Rattle.ld_history.specs.Seen.{seen}
use Rattle.ld_history.proofs.Counting.{can_count}
use Rattle.ld_history.proofs.state.State.publish.Goals as goal

pub publish_answer-requires : goal.publish_answer-requires
publish_answer-requires c = can_count c.self.inside.limits c.self.inside.history.items (seen c.self.inside.tables) c.self.invariant.kept
