use Rattle.ld_history.specs.SeatsStay.{seat_stays}
use Rattle.ld_history.proofs.LawSeats.{seat_is, each_has_seat}
use Rattle.ld_history.proofs.LawTold.{by_turns}
use Rattle.ld_history.proofs.seat_laws.seats_stay.Goals as goal

pub returns-clause-stays : goal.returns-clause-stays
returns-clause-stays c = seat_stays

pub returns-clause-each : goal.returns-clause-each
returns-clause-each c limits entries place legal lt = each_has_seat limits entries place (by_turns limits entries legal) lt

pub returns-clause-opened : goal.returns-clause-opened
returns-clause-opened c limits entries session s legal is = seat_is limits entries session s (by_turns limits entries legal) is
