use Rattle.std.proofs.Common.{[]}
use Rattle.ld_tree_read.specs.Begun.{after}
use Rattle.ld_tree_read.specs.State.{start}
use Rattle.ld_tree_read.proofs.LeastPlaces.{text_is_begun}
use Rattle.ld_tree_read.proofs.laws.text_begun.Goals as goal

pub returns : goal.returns
returns c = λ bytes h. text_is_begun (after [] start bytes) h
