use Rattle.ld_moves.proofs.Revising.{revise_moves, revise_told}
use Rattle.ld_moves.proofs.steps.revisions_move.Goals as goal

pub returns-clause-moves : goal.returns-clause-moves
returns-clause-moves c session limits front found r iri t f is = revise_moves session limits front found f iri t is r

pub returns-clause-told : goal.returns-clause-told
returns-clause-told c session limits front found iri t f is = revise_told session limits front found f iri t is
