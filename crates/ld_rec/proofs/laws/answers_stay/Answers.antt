use Rattle.ld_rec.specs.Processing.{process}
use Rattle.ld_rec.proofs.Staying.{stays}
use Rattle.ld_rec.proofs.laws.answers_stay.Goals as goal

pub returns : goal.returns
returns c = λ stock more ask within. stays stock more within (process ask)
