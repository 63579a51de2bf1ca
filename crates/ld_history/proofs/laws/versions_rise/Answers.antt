use Rattle.ld_history.proofs.LawVersions.{versions_counted, pins_rise}
use Rattle.ld_history.proofs.LawTold.{by_turns}
use Rattle.ld_history.proofs.laws.versions_rise.Goals as goal

pub returns-clause-counted : goal.returns-clause-counted
returns-clause-counted c limits entries legal = versions_counted limits entries (by_turns limits entries legal)

pub returns-clause-pins_rise : goal.returns-clause-pins_rise
returns-clause-pins_rise c limits entries session legal = pins_rise limits entries session (by_turns limits entries legal)
