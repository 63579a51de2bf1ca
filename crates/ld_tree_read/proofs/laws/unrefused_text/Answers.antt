use Rattle.std.proofs.Common.{[]}
use Rattle.ld_tree_read.specs.State.{start}
use Rattle.ld_tree_read.proofs.LeastPlaces.{no_refusal}
use Rattle.ld_tree_read.proofs.laws.unrefused_text.Goals as goal

pub returns : goal.returns
returns c = λ bytes h. no_refusal 0 [] start bytes h
