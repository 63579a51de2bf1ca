use Rattle.std.proofs.Common.{◌≡◌, drop}
use Rattle.ld_rec.specs.Iris.{or_else}
use Rattle.ld_rec.specs.Outcome.{each}
use Rattle.ld_rec.specs.Expansion.{with_type}
use Rattle.ld_expand.specs.Steps.{Keeps}
use Rattle.ld_expand.proofs.types.apply_each.Given as goal

abbrev pub invariant-loop-text : goal.invariant-loop-text
invariant-loop-text g l =
    (((each (with_type (g.C.Kept.View.flat l.type_view)) l.texts (g.C.Kept.View.flat (or_else l.initial.made l.type_view))).run (g.C.Contexts.stock l.initial.contexts)).result
    ≡ ((each (with_type (g.C.Kept.View.flat l.type_view)) (drop l.text-index l.texts) (g.C.Kept.View.flat (or_else l.made l.type_view))).run (g.C.Contexts.stock l.initial.contexts)).result)
    × Keeps g.C.Contexts.stock g.C.Contexts.gave l.initial.contexts l.contexts
    × g.C.Contexts.gave l.contexts (or_else l.made l.type_view)
