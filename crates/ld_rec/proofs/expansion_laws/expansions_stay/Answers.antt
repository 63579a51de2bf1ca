use Rattle.ld_rec.specs.Expansion.{expansion}
use Rattle.ld_rec.proofs.Staying.{stays}
use Rattle.ld_rec.proofs.expansion_laws.expansions_stay.Goals as goal

pub returns : goal.returns
returns c = λ stock more base document within. stays stock more within (expansion base document)
