use Rattle.std.proofs.Common.{◌≡◌, drop}
use Rattle.ld_tree.specs.Maps.{empty}
use Rattle.ld_rec.specs.Compacting.{rename}
use Rattle.ld_inverse.proofs.value.renamed.Given as goal

-- what is left, put to what is made, is all
abbrev pub invariant-loop-entry : goal.invariant-loop-entry
invariant-loop-entry g l = rename (g.V.View.flat l.ctx) l.types l.entries.0 empty ≡ rename (g.V.View.flat l.ctx) l.types (drop l.entry-index l.entry-items) l.made
