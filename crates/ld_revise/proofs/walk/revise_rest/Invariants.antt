use Rattle.std.proofs.Common.{drop, map}
use Rattle.ld_revise.proofs.Resting.{Resting}
use Rattle.ld_revise.proofs.walk.revise_rest.Given as goal

abbrev pub invariant-loop-iri : goal.invariant-loop-iri
invariant-loop-iri g l = Resting l.fn.visit l.visit (g.L.Loader.loading l.fn.loader) (g.L.Loader.loading l.loader) (map (λ e. e.0) l.rest) (map (λ e. e.0) (drop l.iri-index l.rest)) l.fn.tally l.tally
