use Rattle.ld_script.proofs.Arguments.{no_fail, no_fail_flight, no_fail_before, no_fail_after}
use Rattle.ld_script.proofs.read.read_fail.Goals as goal

pub returns-in_err-flight : goal.returns-in_err-flight
returns-in_err-flight c = rw c.from_residual.ensures (no_fail c.in_err-flight.ensures)

pub returns-in_err-flight-2 : goal.returns-in_err-flight-2
returns-in_err-flight-2 c = rw c.from_residual-in_err-flight-2.ensures (no_fail_flight c.in_ok-flight.ensures c.in_err-flight-2.ensures)

pub returns-in_err-before : goal.returns-in_err-before
returns-in_err-before c = rw c.from_residual-in_err-before.ensures (no_fail_before c.in_ok-flight.ensures c.in_err-before.ensures)

pub returns-in_err-after : goal.returns-in_err-after
returns-in_err-after c = rw c.from_residual-in_err-after.ensures (no_fail_after c.in_ok-flight.ensures c.in_err-after.ensures)
