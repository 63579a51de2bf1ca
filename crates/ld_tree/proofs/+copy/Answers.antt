use Rattle.std.proofs.Common.{◌≡◌, arith}
use Rattle.std.proofs.lemmas.Grind.{common_steps}
use Rattle.ld_tree.specs.Names.{same_sorted}
use Rattle.ld_tree.proofs.+copy.Goals as goal

pub copy::copy_entries-returns : goal.copy::copy_entries-returns
copy::copy_entries-returns t c =
    let same : c.from_sorted.result.0 ≡ c.args.entries.now.0 = grind (arith, common_steps) in
    same_sorted _ _ same
