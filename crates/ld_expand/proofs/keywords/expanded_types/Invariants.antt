use Rattle.std.proofs.Common.{◌≡◌, ◌++◌, drop}
use Rattle.std.specs.Prelude.{filter_map}
use Rattle.ld_rec.specs.Expansion.{type_in}
use Rattle.ld_expand.proofs.keywords.expanded_types.Given as goal

abbrev pub invariant-loop-item : goal.invariant-loop-item
invariant-loop-item g l = l.types.items ++ filter_map (type_in (g.K.View.flat l.view)) (drop l.item-index l.items) ≡ filter_map (type_in (g.K.View.flat l.view)) l.items
