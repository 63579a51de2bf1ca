use Rattle.ld_moves.proofs.Snapshots.{snapshot_is}
use Rattle.ld_moves.proofs.Staying.{lacked_in_stock, stocks_stay_on, versions_rise}
use Rattle.ld_moves.proofs.laws.stocks_stay.Goals as goal

pub returns-clause-stay : goal.returns-clause-stay
returns-clause-stay c limits front later version sound grows le = stocks_stay_on limits front later version sound grows le

pub returns-clause-rise : goal.returns-clause-rise
returns-clause-rise c limits front later sound grows = versions_rise limits front later sound grows

pub returns-clause-snapshot : goal.returns-clause-snapshot
returns-clause-snapshot c shot pages version is = snapshot_is shot pages version is

pub returns-clause-lacked : goal.returns-clause-lacked
returns-clause-lacked c pages version iri right none = lacked_in_stock pages version iri right none
