use Rattle.ld_script.proofs.Arguments.{no_second}
use Rattle.ld_script.proofs.read.split_twice.Goals as goal

pub returns-in_err-second : goal.returns-in_err-second
returns-in_err-second c = rw c.from_residual-in_err-second.ensures (no_second c.in_ok-first.ensures c.in_err-second.ensures)
