use Rattle.ld_tree_read.proofs.Ruled.{ruled}
use Rattle.ld_tree_read.proofs.laws.ruled_text.Goals as goal

pub returns : goal.returns
returns c = λ bytes h. ruled bytes h
