use Rattle.ld_history.proofs.LawHolds.{answer_follows, failure_follows, lapse_follows, close_follows}
use Rattle.ld_history.proofs.LawTold.{by_turns}
use Rattle.ld_history.proofs.laws.ends_are_allowed.Goals as goal

pub returns-clause-answered : goal.returns-clause-answered
returns-clause-answered c limits entries session s small legal = answer_follows limits entries session s small (by_turns limits entries legal)

pub returns-clause-failed : goal.returns-clause-failed
returns-clause-failed c limits entries number flight before after small legal = failure_follows limits entries number flight before after small (by_turns limits entries legal)

pub returns-clause-lapsed : goal.returns-clause-lapsed
returns-clause-lapsed c limits entries number flight small legal = lapse_follows limits entries number flight small (by_turns limits entries legal)

pub returns-clause-closed : goal.returns-clause-closed
returns-clause-closed c limits entries session s small legal = close_follows limits entries session s small (by_turns limits entries legal)
