use Rattle.std.specs.Cmp.{first_so}
use Rattle.ld_iri.proofs.LeadsBack.{leads_back}
use Rattle.ld_iri.proofs.laws.relative_leads_back.Goals as goal

pub returns : goal.returns
returns c = leads_back c.args.base.now c.args.iri.now (first_so _ _ c.requires)
