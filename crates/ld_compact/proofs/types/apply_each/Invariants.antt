use Rattle.std.proofs.Common.{◌≡◌, drop}
use Rattle.ld_rec.specs.Iris.{or_else}
use Rattle.ld_rec.specs.Outcome.{each}
use Rattle.ld_rec.specs.Promises.{KeepsContext}
use Rattle.ld_compact.specs.Compaction.{with_type}
use Rattle.ld_compact.specs.Steps.{Keeps}
use Rattle.ld_compact.proofs.types.apply_each.Given as goal

abbrev pub invariant-loop-text : goal.invariant-loop-text
invariant-loop-text g l =
    (((each (with_type (g.W.Kept.View.flat l.entry)) l.texts (g.W.Kept.View.flat l.view)).run (g.W.Contexts.stock l.initial.work)).result
    ≡ ((each (with_type (g.W.Kept.View.flat l.entry)) (drop l.text-index l.texts) (g.W.Kept.View.flat (or_else l.made l.view))).run (g.W.Contexts.stock l.initial.work)).result)
    × Keeps g.W.Contexts.stock g.W.Contexts.gave l.initial.work l.work
    × g.W.Contexts.gave l.work (or_else l.made l.view)
    × KeepsContext (g.W.Kept.View.flat (or_else l.made l.view))
