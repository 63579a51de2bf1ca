use Rattle.ld_history.specs.Seen.{seen}
use Rattle.ld_history.proofs.LawTold.{legal_kept}
use Rattle.ld_history.proofs.state.State.events.Goals as goal

pub returns-clause-legal : goal.returns-clause-legal
returns-clause-legal c = legal_kept c.self.inside.limits c.self.inside.history.items (seen c.self.inside.tables) c.args.self.now c.self.invariant.kept c.self.view_is
