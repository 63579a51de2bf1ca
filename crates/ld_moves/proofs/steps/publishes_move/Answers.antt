use Rattle.ld_moves.proofs.Publishing.{publish_ends, publish_moves, publish_stands}
use Rattle.ld_moves.proofs.steps.publishes_move.Goals as goal

pub returns-clause-moves : goal.returns-clause-moves
returns-clause-moves c session limits front found number flight ready t stage given x faults f led there tells is g waits = publish_moves session limits front found f number flight led there ready tells t is given x g faults stage waits

pub returns-clause-ends : goal.returns-clause-ends
returns-clause-ends c session limits front found number flight ready t f led there tells is = publish_ends session limits front found f number flight led there ready tells t is

pub returns-clause-stands : goal.returns-clause-stands
returns-clause-stands c session limits front found number flight ready t s f led there tells is open_as = publish_stands session limits front found f number flight led there ready tells t is s open_as
