use Rattle.std.proofs.Common.{◌≡◌, drop}
use Rattle.std.specs.Prelude.{codes}
use Rattle.std.specs.List.{list_any}
use Rattle.std.specs.Map.{keys_of}
use Rattle.ld_rec.specs.Places.{means}
use Rattle.ld_expand.proofs.contexts.has_value.Given as goal

abbrev pub invariant-loop-name : goal.invariant-loop-name
invariant-loop-name g l =
    list_any (means (g.K.View.flat l.view) (codes "@value")) (keys_of (drop l.name-index l.name-items)) ≡ list_any (means (g.K.View.flat l.view) (codes "@value")) (keys_of l.entries.0)
