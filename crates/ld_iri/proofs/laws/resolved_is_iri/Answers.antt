use Rattle.ld_iri.proofs.Schemes.{resolved_form}
use Rattle.ld_iri.proofs.laws.resolved_is_iri.Goals as goal

pub returns : goal.returns
returns c = resolved_form c.args.base.now c.args.reference.now c.utf8.base c.utf8.reference c.requires.base c.requires.reference
