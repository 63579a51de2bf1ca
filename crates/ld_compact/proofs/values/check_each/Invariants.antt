use Rattle.std.proofs.Common.{◌≡◌, drop}
use Rattle.ld_compact.specs.Renaming.{check_names}
use Rattle.ld_compact.proofs.values.check_each.Given as goal

abbrev pub invariant-loop-name : goal.invariant-loop-name
invariant-loop-name g l = check_names (g.K.View.flat l.place.view.now) l.entries.0 ≡ check_names (g.K.View.flat l.place.view.now) (drop l.name-index l.name-items)
