use Rattle.std.proofs.Common.{take}
use Rattle.ld_inverse.proofs.Candidates.{AtFronts}
use Rattle.ld_inverse.proofs.Leasts.{IsLeast}
use Rattle.ld_rec.specs.Prefixes.{counts, prefixes}
use Rattle.ld_inverse.proofs.compact_form.by_prefix.Given as goal

-- the best so far is the least of the fronts so far
abbrev pub invariant-loop-length : goal.invariant-loop-length
invariant-loop-length g l = IsLeast (AtFronts l.iri (counts (g.V.View.flat l.ctx) l.iri l.has_value) (prefixes (g.V.View.flat l.ctx)) (take l.length-index l.length-items)) l.best
