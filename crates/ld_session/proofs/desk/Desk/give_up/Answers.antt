use Rattle.ld_session.proofs.Flights.{lapsed}
use Rattle.ld_session.proofs.desk.Desk.give_up.Goals as goal

pub returns : goal.returns
returns g c before after gains = lapsed c.args.visit c.args.pass c.requires.leads c.lapse-visit.result c.lapse-visit.ensures before after gains
