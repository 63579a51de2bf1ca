-- The context that a `Ctx` stands for.
use Rattle.std.specs.Prelude.{List, [], ◌∷◌, Option, Some, None}
use Rattle.std.specs.declared.boxed.Box.{Box}
use Rattle.std.specs.declared.alloc.Global.{Global}
use Rattle.ld_rec.specs.Records.{Context, Layer}
use Rattle.ld_ctx.specs.Terms.{terms_of}
use Rattle.ld_ctx.specs.declared.ctx.Ctx.{Ctx, out-Ctx}
use Rattle.ld_ctx.specs.declared.ctx.Ctx.TheOpen.{Ctx-F}
use Rattle.ld_ctx.specs.declared.ctx.Ctx.TheFolds.{fold-Ctx}

abbrev pub layer_of : {A : Type 0} → Ctx-F A → Layer
layer_of c = record { base = c.base; first_base = c.first_base; vocab = c.vocab; language = c.language; direction = c.direction; terms = terms_of c.terms }

-- the fields of the previous context, and of those before it
abbrev pub layers_of : Option (Box Context Global) → List Layer
layers_of None = []
layers_of (Some previous) = previous.value.own ∷ previous.value.before

abbrev pub flat_step : Ctx-F Context → Context
flat_step c = record { own = layer_of c; before = layers_of c.previous }

abbrev pub flat : Ctx → Context
flat = fold-Ctx Context flat_step

abbrev pub boxed : Option (Box Ctx Global) → Option Ctx
boxed None = None
boxed (Some previous) = Some previous.value

-- the previous context, as a `Ctx`
abbrev pub behind : Ctx → Option Ctx
behind c = boxed (out-Ctx c).previous

-- the fields of a previous context that is a `Ctx`, and of those before it
abbrev pub layers_of_boxed : Option (Box Ctx Global) → List Layer
layers_of_boxed None = []
layers_of_boxed (Some previous) = (flat previous.value).own ∷ (flat previous.value).before
