use Rattle.ld_fits.proofs.Staying.{leads_on, stays}
use Rattle.ld_fits.proofs.laws.stages_go_on.Goals as goal

pub returns-clause-on : goal.returns-clause-on
returns-clause-on c limits stock from via to mine more h k = leads_on limits stock from via to mine more h k

pub returns-clause-stay : goal.returns-clause-stay
returns-clause-stay c limits n stock from to mine within leads = stays limits n stock from to mine within leads
