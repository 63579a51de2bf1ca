use Rattle.ld_history.specs.Seen.{seen}
use Rattle.ld_history.proofs.Counting.{can_count}
use Rattle.ld_history.proofs.state.State.open_session.Goals as goal

pub open_answer-requires : goal.open_answer-requires
open_answer-requires c = can_count c.self.inside.limits c.self.inside.history.items (seen c.self.inside.tables) c.self.invariant.kept
