use Rattle.ld_tree.proofs.Once.{read_once}
use Rattle.ld_tree.proofs.reading.reads_once.Goals as goal

pub returns : goal.returns
returns c = read_once
