use Rattle.ld_history.proofs.LawHolds.{lacks_differ, lacks_few, attempts_few}
use Rattle.ld_history.proofs.LawTold.{by_turns}
use Rattle.ld_history.proofs.laws.lacks_differ.Goals as goal

pub returns-clause-differ : goal.returns-clause-differ
returns-clause-differ c limits entries session small legal = lacks_differ limits entries session small (by_turns limits entries legal)

pub returns-clause-few : goal.returns-clause-few
returns-clause-few c limits entries session small legal = lacks_few limits entries session small (by_turns limits entries legal)

pub returns-clause-attempts : goal.returns-clause-attempts
returns-clause-attempts c limits entries session small legal = attempts_few limits entries session small (by_turns limits entries legal)
