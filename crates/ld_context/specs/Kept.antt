-- The context that a `Kept` stands for.
use Rattle.std.specs.Prelude.{List, [], ◌∷◌, Option, Some, None}
use Rattle.std.specs.Arc.{arc_value}
use Rattle.std.specs.declared.boxed.Box.{Box}
use Rattle.std.specs.declared.alloc.Global.{Global}
use Rattle.ld_rec.specs.Records.{Context, Layer}
use Rattle.ld_ctx.specs.Flat.{flat}
use Rattle.ld_context.specs.declared.kept.Kept.{Kept, out-Kept}
use Rattle.ld_context.specs.declared.kept.Kept.TheOpen.{Kept-F}
use Rattle.ld_context.specs.declared.kept.Kept.TheFolds.{fold-Kept}

-- the fields of the previous context, and of those before it
abbrev pub layers_of : Option (Box Context Global) → List Layer
layers_of None = []
layers_of (Some previous) = previous.value.own ∷ previous.value.before

abbrev pub kept_step : Kept-F Context → Context
kept_step k = record { own = (flat (arc_value k.own)).own; before = layers_of k.previous }

abbrev pub kept_flat : Kept → Context
kept_flat = fold-Kept Context kept_step

abbrev pub boxed : Option (Box Kept Global) → Option Kept
boxed None = None
boxed (Some previous) = Some previous.value

-- the previous context, as a `Kept`
abbrev pub kept_behind : Kept → Option Kept
kept_behind k = boxed (out-Kept k).previous
