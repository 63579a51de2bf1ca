use Rattle.std.proofs.Common.{◌∙◌}
use Rattle.ld_history.proofs.IndexSessions.{taken_is}
use Rattle.ld_history.proofs.tables.Tables.is_taken.Goals as goal

pub returns : goal.returns
returns c = c.contains_key.ensures ∙ taken_is c.args.self.now.sessions.entries c.args.self.now.index c.args.self.now.indexed c.args.seat
