use Rattle.std.proofs.Common.{◌≡◌, map, drop, find}
use Rattle.ld_rec.specs.Prefixes.{compact_form, counts}
use Rattle.ld_inverse.proofs.compact_form.first_counting.Given as goal

-- what is left gives what the whole gives
abbrev pub invariant-loop-mapping : goal.invariant-loop-mapping
invariant-loop-mapping g l = find (counts (g.V.View.flat l.ctx) l.iri l.has_value) (map (compact_form l.iri) l.prefixes)
    ≡ find (counts (g.V.View.flat l.ctx) l.iri l.has_value) (map (compact_form l.iri) (drop l.mapping-index l.prefixes))
