use Rattle.std.proofs.Common.{◌≡◌, drop}
use Rattle.ld_rec.specs.Expansion.{first_type_value}
use Rattle.ld_expand.proofs.types.first_type_value.Given as goal

abbrev pub invariant-loop-name : goal.invariant-loop-name
invariant-loop-name g l = first_type_value (g.K.View.flat l.view) (drop l.name-index l.name-items) ≡ first_type_value (g.K.View.flat l.view) l.entries.0
