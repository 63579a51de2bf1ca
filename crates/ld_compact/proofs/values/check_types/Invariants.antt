use Rattle.std.proofs.Common.{◌≡◌, drop}
use Rattle.ld_compact.specs.Renaming.{check_types}
use Rattle.ld_compact.proofs.values.check_types.Given as goal

abbrev pub invariant-loop-value : goal.invariant-loop-value
invariant-loop-value g l = check_types (g.K.View.flat l.place.view.now) l.types ≡ check_types (g.K.View.flat l.place.view.now) (drop l.value-index l.types)
