use Rattle.ld_history.proofs.LawHolds.{one_flight, lead_where_new, revise_where_stored}
use Rattle.ld_history.proofs.LawTold.{by_turns}
use Rattle.ld_history.proofs.laws.flights_are_single.Goals as goal

pub returns-clause-single : goal.returns-clause-single
returns-clause-single c limits entries a b f g legal = one_flight limits entries a b f g (by_turns limits entries legal)

pub returns-clause-lead_where_new : goal.returns-clause-lead_where_new
returns-clause-lead_where_new c limits entries number flight legal = lead_where_new limits entries number flight (by_turns limits entries legal)

pub returns-clause-revise_where_stored : goal.returns-clause-revise_where_stored
returns-clause-revise_where_stored c limits entries number flight legal = revise_where_stored limits entries number flight (by_turns limits entries legal)
