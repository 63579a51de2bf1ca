use Rattle.ld_tree_read.proofs.Accepts.{text_from}
use Rattle.ld_tree_read.proofs.laws.grammar_text.Goals as goal

pub returns : goal.returns
returns c = λ bytes w. text_from w
