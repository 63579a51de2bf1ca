use Rattle.ld_moves.proofs.Evicting.{evict_moves, evict_stands}
use Rattle.ld_moves.proofs.steps.evictions_move.Goals as goal

pub returns-clause-moves : goal.returns-clause-moves
returns-clause-moves c session limits front found r iri t f is = evict_moves session limits front found f iri t is r

pub returns-clause-told : goal.returns-clause-told
returns-clause-told c session limits front found iri t f is = evict_stands session limits front found f iri t is
