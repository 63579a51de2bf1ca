use Rattle.ld_lacks.proofs.ShortAnswers.{short}
use Rattle.ld_lacks.proofs.laws.missing_is_short.Goals as goal

pub returns : goal.returns
returns c stock op envelope iri is = short stock iri op envelope is
