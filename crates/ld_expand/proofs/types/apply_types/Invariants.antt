use Rattle.std.proofs.Common.{◌≡◌, drop}
use Rattle.ld_rec.specs.Iris.{or_else}
use Rattle.ld_rec.specs.Outcome.{each}
use Rattle.ld_rec.specs.Expansion.{with_types_of}
use Rattle.ld_expand.specs.Steps.{Keeps}
use Rattle.ld_expand.proofs.types.apply_types.Given as goal

abbrev pub invariant-loop-name : goal.invariant-loop-name
invariant-loop-name g l =
    (((each (with_types_of (g.C.Kept.View.flat l.type_view)) l.entries.0 (g.C.Kept.View.flat l.type_view)).run (g.C.Contexts.stock l.initial.contexts)).result
    ≡ ((each (with_types_of (g.C.Kept.View.flat l.type_view)) (drop l.name-index l.name-items) (g.C.Kept.View.flat (or_else l.made l.type_view))).run (g.C.Contexts.stock l.initial.contexts)).result)
    × Keeps g.C.Contexts.stock g.C.Contexts.gave l.initial.contexts l.contexts
    × g.C.Contexts.gave l.contexts (or_else l.made l.type_view)
