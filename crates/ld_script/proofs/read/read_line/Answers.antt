use Rattle.ld_script.proofs.Lines.{no_verb}
use Rattle.ld_script.proofs.read.read_line.Goals as goal

pub returns-in-None : goal.returns-in-None
returns-in-None c = no_verb c.in-Some.ensures c.in-None.ensures
