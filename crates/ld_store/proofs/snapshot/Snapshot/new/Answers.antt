use Rattle.std.proofs.Common.{ap}
use Rattle.ld_tree.specs.Maps.{empty}
use Rattle.ld_tree.specs.Names.{same_sorted}
use Rattle.ld_store.specs.Snapshots.{Shot}
use Rattle.ld_store.proofs.snapshot.Snapshot.new.Goals as goal

pub returns : goal.returns
returns c = ap (λ placed. let shot : Shot = record { version = 0; placed = placed } in shot) (same_sorted c.new.result empty c.new.ensures)
