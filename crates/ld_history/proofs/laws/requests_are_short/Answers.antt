use Rattle.ld_history.proofs.LawHolds.{spends_few}
use Rattle.ld_history.proofs.LawTold.{by_turns}
use Rattle.ld_history.proofs.laws.requests_are_short.Goals as goal

pub returns : goal.returns
returns c = record { short = λ limits entries session small legal. spends_few limits entries session small (by_turns limits entries legal) }
