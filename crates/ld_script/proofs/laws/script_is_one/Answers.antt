use Rattle.ld_script.proofs.Scripts.{limits_are_one, lines_are_one, output_is_one}
use Rattle.ld_script.proofs.laws.script_is_one.Goals as goal

pub returns-clause-limits : goal.returns-clause-limits
returns-clause-limits c = λ text l m a b s t. limits_are_one s t

pub returns-clause-lines : goal.returns-clause-lines
returns-clause-lines c = λ text l m a b s t. lines_are_one s t

pub returns-clause-output : goal.returns-clause-output
returns-clause-output c = λ text a b s t. output_is_one s t
