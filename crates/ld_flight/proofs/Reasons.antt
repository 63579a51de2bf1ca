-- Why bytes are no JSON text.
use Rattle.std.proofs.Common.{◌≡◌, refl}
use Rattle.ld_tree_read.specs.Steps.{Known}
use Rattle.ld_tree_read.specs.declared.refusal.ReadRefusal.{ReadRefusal}
use Rattle.ld_tree_read.specs.declared.refusal.ReadRefusal.TheVariants.{Syntax, NotUtf8, Fraction, TooLarge, TooDeep, NoMemory}

-- what holds of each reason but want of memory holds of another one
pub told : (e : ReadRefusal) (P : Type 0) → (e ≡ NoMemory → ⊥) → Known e P → P
told (Syntax at) P other h = h
told (NotUtf8 at) P other h = h
told (Fraction at) P other h = h
told (TooLarge at) P other h = h
told (TooDeep at) P other h = h
told NoMemory P other h = absurd (other refl)
