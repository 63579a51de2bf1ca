use Rattle.ld_head.proofs.Unique.{speaks_unique}
use Rattle.ld_head.proofs.laws.one_dialogue.Goals as goal

pub returns : goal.returns
returns c = speaks_unique 0
