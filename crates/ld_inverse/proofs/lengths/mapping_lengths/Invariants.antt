use Rattle.std.proofs.Common.{◌≡◌, length, map, take}
use Rattle.ld_rec.specs.Prefixes.{Prefix}
use Rattle.ld_inverse.proofs.lengths.mapping_lengths.Given as goal

abbrev pub invariant-loop-mapping : goal.invariant-loop-mapping
invariant-loop-mapping l = l.lengths.items ≡ map (λ (p : Prefix). length p.0) (take l.mapping-index l.prefixes)
