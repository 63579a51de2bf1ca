use Rattle.std.proofs.Common.{◌∙◌, sym}
use Rattle.ld_history.proofs.FirstGoes.{first_goes, nothing_goes}
use Rattle.ld_history.proofs.tables.Tables.next_out.Goals as goal

pub returns-in-Some : goal.returns-in-Some
returns-in-Some c = c.get.ensures.value ∙ first_goes c.args.self.now c.in-Some.version (sym c.first.ensures ∙ c.in-Some.is)

pub returns-in-None : goal.returns-in-None
returns-in-None c = nothing_goes c.args.self.now (sym c.first.ensures ∙ c.in-None.is)
