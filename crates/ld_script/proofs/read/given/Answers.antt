use Rattle.std.proofs.Common.{sym}
use Rattle.ld_script.proofs.Arguments.{no_given, no_given_flight, no_given_length, no_given_mark}
use Rattle.ld_script.proofs.read.given.Goals as goal

pub returns-in_err-flight : goal.returns-in_err-flight
returns-in_err-flight c = rw c.from_residual.ensures (no_given c.in_err-flight.ensures)

pub returns-in_err-flight-2 : goal.returns-in_err-flight-2
returns-in_err-flight-2 c = rw c.from_residual-in_err-flight-2.ensures (no_given_flight c.in_ok-flight.ensures c.in_err-flight-2.ensures)

pub returns-in_err-length : goal.returns-in_err-length
returns-in_err-length c = rw c.from_residual-in_err-length.ensures (no_given_length c.in_ok-flight.ensures c.in_err-length.ensures)

pub returns-else-is_word : goal.returns-else-is_word
returns-else-is_word c = no_given_mark c.in_ok-flight.ensures (sym c.if-is_word.ensures)
