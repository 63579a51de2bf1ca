use Rattle.ld_rec.specs.Processing.{process}
use Rattle.ld_rec.proofs.laws.processing_rests_on_its_questions.Goals as goal

pub returns : goal.returns
returns c = λ stock other ask. (process ask).rests stock other
