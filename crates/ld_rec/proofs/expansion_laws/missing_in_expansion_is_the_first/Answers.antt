use Rattle.ld_rec.specs.Expansion.{expansion}
use Rattle.ld_rec.proofs.Staying.{missing_last}
use Rattle.ld_rec.proofs.expansion_laws.missing_in_expansion_is_the_first.Goals as goal

pub returns : goal.returns
returns c = λ stock base document. missing_last stock (expansion base document)
