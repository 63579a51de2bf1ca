use Rattle.ld_moves.proofs.Stepping.{answer_moves, answer_told}
use Rattle.ld_moves.proofs.steps.answers_move.Goals as goal

pub returns-clause-moves : goal.returns-clause-moves
returns-clause-moves c session limits front found from how t f is = answer_moves session limits front found f how t is from

pub returns-clause-told : goal.returns-clause-told
returns-clause-told c session limits front found how t f is = answer_told session limits front found f how t is
