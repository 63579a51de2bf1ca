use Rattle.ld_own.proofs.Loads.{gained_on, spans_on}
use Rattle.ld_own.proofs.laws.loads_add_up.Goals as goal

pub returns-clause-gained : goal.returns-clause-gained
returns-clause-gained c mine more gained later h k = gained_on mine more gained later h k

pub returns-clause-spans : goal.returns-clause-spans
returns-clause-spans c low count high mine more h k = spans_on low count high mine more h k
