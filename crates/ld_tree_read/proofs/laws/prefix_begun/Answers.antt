use Rattle.std.proofs.Common.{[]}
use Rattle.ld_tree_read.specs.State.{start}
use Rattle.ld_tree_read.proofs.LeastPlaces.{prefix}
use Rattle.ld_tree_read.proofs.laws.prefix_begun.Goals as goal

pub returns : goal.returns
returns c = λ bytes more h. prefix [] start bytes more h
