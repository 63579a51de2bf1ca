use Rattle.ld_rec.specs.Expansion.{expansion}
use Rattle.ld_rec.proofs.expansion_laws.expansion_rests_on_its_questions.Goals as goal

pub returns : goal.returns
returns c = λ stock other base document. (expansion base document).rests stock other
