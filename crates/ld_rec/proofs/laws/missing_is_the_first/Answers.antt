use Rattle.ld_rec.specs.Processing.{process}
use Rattle.ld_rec.proofs.Staying.{missing_last}
use Rattle.ld_rec.proofs.laws.missing_is_the_first.Goals as goal

pub returns : goal.returns
returns c = λ stock ask. missing_last stock (process ask)
