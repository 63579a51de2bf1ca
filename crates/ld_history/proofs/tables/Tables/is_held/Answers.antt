use Rattle.std.proofs.Common.{◌∙◌}
use Rattle.ld_history.proofs.IndexSessions.{held_is}
use Rattle.ld_history.proofs.tables.Tables.is_held.Goals as goal

pub returns : goal.returns
returns c = c.contains_key.ensures ∙ held_is c.args.self.now.sessions.entries c.args.self.now.index c.args.self.now.indexed c.args.iri.now
