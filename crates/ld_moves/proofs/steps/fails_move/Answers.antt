use Rattle.ld_moves.proofs.Landing.{fail_ends, fail_moves, fail_stands}
use Rattle.ld_moves.proofs.steps.fails_move.Goals as goal

pub returns-clause-moves : goal.returns-clause-moves
returns-clause-moves c session limits front found number flight before after t stage given low f led there is rose waits le = fail_moves session limits front found f number flight led there before after t is rose stage waits given low le

pub returns-clause-ends : goal.returns-clause-ends
returns-clause-ends c session limits front found number flight before after t f led there is = fail_ends session limits front found f number flight led there before after t is

pub returns-clause-stands : goal.returns-clause-stands
returns-clause-stands c session limits front found number flight before after t s f led there is open_as = fail_stands session limits front found f number flight led there before after t is s open_as
