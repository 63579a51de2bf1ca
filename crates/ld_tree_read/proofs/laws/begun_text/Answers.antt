use Rattle.std.proofs.Common.{[], ◌++◌}
use Rattle.ld_tree_read.specs.State.{start}
use Rattle.ld_tree_read.proofs.Completing.{goes_on}
use Rattle.ld_tree_read.proofs.Ruled.{ruled}
use Rattle.ld_tree_read.proofs.laws.begun_text.Goals as goal

pub returns : goal.returns
returns c = λ bytes h. let w = goes_on [] start bytes tt h in (w.0, ruled (bytes ++ w.0) w.1)
