use Rattle.ld_moves.proofs.Landing.{lapse_ends, lapse_moves, lapse_stands}
use Rattle.ld_moves.proofs.steps.lapses_move.Goals as goal

pub returns-clause-moves : goal.returns-clause-moves
returns-clause-moves c session limits front found number flight t stage given gained faults f led there is waits gains = lapse_moves session limits front found f number flight led there t is stage waits given gained faults gains

pub returns-clause-ends : goal.returns-clause-ends
returns-clause-ends c session limits front found number flight t f led there is = lapse_ends session limits front found f number flight led there t is

pub returns-clause-stands : goal.returns-clause-stands
returns-clause-stands c session limits front found number flight t s f led there is open_as = lapse_stands session limits front found f number flight led there t is s open_as
