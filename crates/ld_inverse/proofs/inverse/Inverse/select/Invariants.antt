use Rattle.std.proofs.Common.{◌≡◌, map, drop}
use Rattle.ld_rec.specs.Records.{Context}
use Rattle.ld_rec.specs.Selection.{chosen}
use Rattle.ld_inverse.specs.Inverses.{IsInverseOf}
use Rattle.ld_inverse.proofs.inverse.Inverse.select.Given as goal

-- what is left to try gives what the whole gives
abbrev pub invariant-loop-tried : goal.invariant-loop-tried
invariant-loop-tried l = (context : Context) → IsInverseOf l.self context
    → chosen context l.iri l.containers l.kind (map (λ p. p.now) l.preferred) ≡ chosen context l.iri (drop l.tried-index l.containers) l.kind (map (λ p. p.now) l.preferred)
