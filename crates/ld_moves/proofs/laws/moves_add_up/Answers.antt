use Rattle.ld_moves.proofs.Joining.{more_moves, none_moves, waits_moves}
use Rattle.ld_moves.proofs.laws.moves_add_up.Goals as goal

pub returns-clause-none : goal.returns-clause-none
returns-clause-none c session p sound = none_moves session p sound

pub returns-clause-more : goal.returns-clause-more
returns-clause-more c session a b d m n = more_moves session a b d m n

pub returns-clause-waits : goal.returns-clause-waits
returns-clause-waits c session limits front found given faults stage f = waits_moves session limits front found f given faults stage
