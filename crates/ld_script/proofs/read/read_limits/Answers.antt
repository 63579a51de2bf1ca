use Rattle.ld_script.proofs.Scripts.{no_limits}
use Rattle.ld_script.proofs.read.read_limits.Goals as goal

pub returns-in_err-limits : goal.returns-in_err-limits
returns-in_err-limits c = rw c.from_residual-in_err-limits.ensures (no_limits c.in_ok-line.ensures c.in_err-limits.ensures)
