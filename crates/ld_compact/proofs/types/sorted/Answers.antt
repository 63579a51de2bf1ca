use Rattle.std.proofs.Common.{◌∙◌, ap}
use Rattle.ld_compact.specs.Compaction.{in_order}
use Rattle.ld_compact.proofs.Sorting.{sorted_is}
use Rattle.ld_compact.proofs.types.sorted.Goals as goal

pub returns : goal.returns
returns c = sorted_is c.in_ok-texts.texts.items c.sort.new.self.items c.in_ok-sort.ensures.permutation c.in_ok-sort.ensures.sorted ∙ ap in_order c.in_ok-texts.ensures
