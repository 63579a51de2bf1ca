use Rattle.ld_tree.proofs.Kept.{read_fits, read_spelled, read_depth}
use Rattle.ld_tree.proofs.reading.reads_within.Goals as goal

pub returns-clause-numbers : goal.returns-clause-numbers
returns-clause-numbers c = read_fits

pub returns-clause-texts : goal.returns-clause-texts
returns-clause-texts c = read_spelled

pub returns-clause-depth : goal.returns-clause-depth
returns-clause-depth c = read_depth
