use Rattle.ld_history.proofs.Counting.{flight_fits}
use Rattle.ld_history.proofs.LawTold.{by_turns}
use Rattle.ld_history.proofs.laws.flights_fit.Goals as goal

pub returns : goal.returns
returns c limits entries number flight within legal is = flight_fits limits entries number flight within (by_turns limits entries legal) is
