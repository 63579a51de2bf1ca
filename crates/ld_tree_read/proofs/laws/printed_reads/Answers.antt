use Rattle.ld_tree_read.proofs.Printed.{printed_reads}
use Rattle.ld_tree_read.proofs.laws.printed_reads.Goals as goal

pub returns : goal.returns
returns c = λ t depth numbers names. printed_reads t depth numbers names
