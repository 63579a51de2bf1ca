use Rattle.ld_tree_read.proofs.Clear.{reads_clear}
use Rattle.ld_tree_read.proofs.laws.reads_unrefused.Goals as goal

pub returns : goal.returns
returns c = λ bytes t h. reads_clear bytes t h
