use Rattle.ld_tree.specs.Names.{same_sorted}
use Rattle.ld_compact.proofs.names.no_entries.Goals as goal

pub returns : goal.returns
returns c = same_sorted _ _ c.new.ensures
