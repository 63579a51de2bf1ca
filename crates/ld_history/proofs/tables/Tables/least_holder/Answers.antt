use Rattle.std.proofs.Common.{sym, ◌∙◌}
use Rattle.ld_history.proofs.IndexSessions.{first_is, unheld_has_none}
use Rattle.ld_history.proofs.tables.Tables.least_holder.Goals as goal

pub returns-in-Some : goal.returns-in-Some
returns-in-Some c =
    let t = c.args.self.now in
    c.copied.ensures ∙ first_is t.sessions.entries t.index t.indexed c.args.iri.now c.in-Some.set.now (sym c.in-Some.ensures.value) c.first.result c.first.ensures.variant c.first.ensures.member c.first.ensures.least

pub returns-in-None : goal.returns-in-None
returns-in-None c = let t = c.args.self.now in sym (unheld_has_none t.sessions.entries t.index t.indexed c.args.iri.now (sym c.in-None.ensures.value))
