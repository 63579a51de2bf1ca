use Rattle.ld_script.proofs.Scripts.{bad_is_one, not_bad}
use Rattle.ld_script.proofs.laws.bad_line_is_one.Goals as goal

pub returns-clause-one : goal.returns-clause-one
returns-clause-one c = λ text a b s t. bad_is_one s t

pub returns-clause-no_script : goal.returns-clause-no_script
returns-clause-no_script c = λ text limits lines line s b. not_bad s b
