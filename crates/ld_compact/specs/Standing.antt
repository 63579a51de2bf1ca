-- Contexts with their inverses, as the code holds them.
use Rattle.std.specs.Prelude.{◌≡◌, List, [], ◌∷◌, ◌++◌, Option, Some, None, option_map, option_copied}
use Rattle.std.specs.Arc.{arc_value}
use Rattle.std.specs.declared.sync.Arc.{Arc}
use Rattle.std.specs.declared.alloc.Global.{Global}
use Rattle.ld_inverse.specs.declared.inverse.Inverse.{Inverse}
use Rattle.ld_inverse.specs.Inverses.{IsInverseOf}
use Rattle.ld_rec.specs.declared.def.Def.{Def}
use Rattle.ld_rec.specs.Iris.{or_else}
use Rattle.ld_rec.specs.Promises.{KeepsContext, KeepsDef}
use Rattle.ld_rec.specs.Records.{Context, Layer}
use Rattle.ld_compact.specs.declared.place.Made.{Made}
use Rattle.ld_compact.specs.declared.place.Place.{Place as Standing}

-- an inverse for each of the contexts behind one another
abbrev pub AreBehind : List (Arc Inverse Global) → List Layer → Type 0
AreBehind inverses [] = Unit {0}
AreBehind [] (layer ∷ layers) = ⊥
AreBehind (inverse ∷ inverses) (layer ∷ layers) = IsInverseOf (arc_value inverse) (record { own = layer; before = layers }) × AreBehind inverses layers

-- the context keeps its promises, and has its inverse and those of its previous contexts
pub record IsReady (context : Context) (inverse : Inverse) (behind : List (Arc Inverse Global)) : Type 0 where
  pub promises : KeepsContext context
  pub is_inverse : IsInverseOf inverse context
  pub are_behind : AreBehind behind context.before

abbrev pub Stands : {K : Type 0} → (K → Context) → Standing K → Type 0
Stands flat place = IsReady (flat place.view.now) place.inverse.now place.behind.now

abbrev pub StandsMade : {K : Type 0} → (K → Context) → Made K → Type 0
StandsMade flat made = IsReady (flat made.kept) (arc_value made.inverse) made.behind.items

abbrev pub MayStand : {K : Type 0} → (K → Context) → Option (Made K) → Type 0
MayStand flat None = Unit {0}
MayStand flat (Some made) = StandsMade flat made

-- the context that was made, or else the one at hand
abbrev pub kept_in : {K : Type 0} → Made K → K
kept_in made = made.kept

abbrev pub view_of : {K : Type 0} → Option (Made K) → K → K
view_of made view = or_else (option_map kept_in made) view

-- inverses that were put behind those that stood there
abbrev pub Extends : List (Arc Inverse Global) → List (Arc Inverse Global) → List Layer → Type 0
Extends old new layers = (more : List (Arc Inverse Global)) × ((new ≡ old ++ more) × AreBehind more layers)

-- the base URL of a definition's local context is an IRI
abbrev pub IsDefKept : Option Def → Type 0
IsDefKept None = Unit {0}
IsDefKept (Some def) = KeepsDef def
