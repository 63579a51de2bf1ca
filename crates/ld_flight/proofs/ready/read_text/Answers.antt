use Rattle.std.proofs.Common.{◌≡◌, subst}
use Rattle.ld_tree.specs.Reading.{reads}
use Rattle.ld_tree.specs.declared.tree.Tree.{Tree}
use Rattle.ld_tree_read.specs.Steps.{Known}
use Rattle.ld_flight.proofs.ready.read_text.Goals as goal

pub keep_unread-requires-clause-unread : goal.keep_unread-requires-clause-unread
keep_unread-requires-clause-unread c = subst (λ bytes. Known c.in-Err.e ((t : Tree) → reads bytes t → ⊥)) c.as_slice.ensures c.in-Err.ensures.unread
