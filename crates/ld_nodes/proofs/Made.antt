-- A map, as the code makes it.
use Rattle.std.proofs.Common.{◌≡◌, ◌∙◌, sym, ap}
use Rattle.ld_tree.specs.Names.{Sorted}
use Rattle.ld_tree.specs.declared.tree.Tree.{Tree}
use Rattle.ld_tree.specs.declared.tree.Tree.TheVariants as V
use Rattle.ld_rec.specs.Kinds.{map_of}

pub map_made : (s t : Sorted Tree) → s ≡ t → V.Map s ≡ map_of t
map_made s t e = sym (V.rolls-Map s) ∙ ap map_of e
