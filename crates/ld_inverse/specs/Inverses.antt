-- What an inverse holds: the two lists of the definitions, each as a table.
use Rattle.std.specs.Prelude.{ℕ, List, length}
use Rattle.std.specs.List.{All, Contains}
use Rattle.std.specs.List.Sorted.{IsNonDecreasing}
use Rattle.ld_tree.specs.Names.{name_cmp}
use Rattle.ld_rec.specs.Records.{Context}
use Rattle.ld_inverse.specs.Groups.{IsGrouped}
use Rattle.ld_rec.specs.Prefixes.{prefixes}
use Rattle.ld_rec.specs.Slots.{slots}
use Rattle.ld_inverse.specs.Orders.{slot_cmp}
use Rattle.ld_inverse.specs.declared.inverse.Inverse.{Inverse}

-- the inverse stands for the context
pub record IsInverseOf (inverse : Inverse) (ctx : Context) : Type 0 where
  pub slots_grouped : IsGrouped slot_cmp (slots ctx) inverse.slots.items
  pub prefixes_grouped : IsGrouped name_cmp (prefixes ctx) inverse.prefixes.items
  pub lengths_ascend : IsNonDecreasing inverse.lengths.items
  pub lengths_cover : All (λ (p : List ℕ × List ℕ). Contains inverse.lengths.items (length p.0)) (prefixes ctx)
