use Rattle.ld_moves.proofs.Lacking.{lack_moves, lack_tells}
use Rattle.ld_moves.proofs.steps.lacks_move.Goals as goal

pub returns-clause-moves : goal.returns-clause-moves
returns-clause-moves c session limits front found r op envelope iri t f is = lack_moves session limits front found f iri t is r op envelope

pub returns-clause-told : goal.returns-clause-told
returns-clause-told c session limits front found iri t f is = lack_tells session limits front found f iri t is
