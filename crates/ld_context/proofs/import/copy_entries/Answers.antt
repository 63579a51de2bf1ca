use Rattle.std.proofs.Common.{◌≡◌, arith}
use Rattle.std.proofs.lemmas.Grind.{common_steps}
use Rattle.ld_tree.specs.Names.{same_sorted}
use Rattle.ld_context.proofs.import.copy_entries.Goals as goal

pub returns : goal.returns
returns c =
    let same : c.from_sorted.result.0 ≡ c.args.entries.now.0 = grind (arith, common_steps) in
    same_sorted _ _ same
