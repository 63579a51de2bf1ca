use Rattle.ld_history.proofs.LawSteps.{lack_taken_where, pin_taken_where}
use Rattle.ld_history.proofs.LawTold.{by_turns}
use Rattle.ld_history.proofs.step_laws.steps_are_found.Goals as goal

pub returns-clause-lack : goal.returns-clause-lack
returns-clause-lack c limits entries session iri legal = lack_taken_where limits entries session iri (by_turns limits entries legal)

pub returns-clause-pin : goal.returns-clause-pin
returns-clause-pin c = pin_taken_where
