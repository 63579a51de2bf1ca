use Rattle.ld_tree.specs.Names.{same_sorted}
use Rattle.ld_ctx.proofs.terms.Terms.new.Goals as goal

pub returns : goal.returns
returns c = same_sorted _ _ c.new.ensures
