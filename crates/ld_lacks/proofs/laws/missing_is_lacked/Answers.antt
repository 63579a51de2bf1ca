use Rattle.ld_lacks.proofs.Lacking.{lacked}
use Rattle.ld_lacks.proofs.laws.missing_is_lacked.Goals as goal

pub returns : goal.returns
returns c stock op envelope iri is = lacked stock iri op envelope is
