use Rattle.std.proofs.Common.{◌≡◌, drop}
use Rattle.ld_rec.specs.Compacting.{compact_items}
use Rattle.ld_inverse.specs.Gathering.{onto}
use Rattle.ld_inverse.proofs.value.compact_items.Given as goal

-- what was gathered, and what is left, is all
abbrev pub invariant-loop-item : goal.invariant-loop-item
invariant-loop-item g l = compact_items (g.V.View.flat l.ctx) l.items ≡ onto l.names.items (compact_items (g.V.View.flat l.ctx) (drop l.item-index l.items))
