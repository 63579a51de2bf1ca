use Rattle.std.proofs.Common.{◌≡◌, arith}
use Rattle.std.proofs.lemmas.Grind.{common_steps}
use Rattle.std.specs.declared.cmp.Ordering.TheVariants.{Equal}
use Rattle.ld_tree.specs.Names.{name_cmp}
use Rattle.ld_history.proofs.Undo.{same_key}
use Rattle.ld_history.proofs.tables.Tables.name.Goals as goal

pub returns-in-Some : goal.returns-in-Some
returns-in-Some c =
    let equal : name_cmp c.in_ok-name.name c.in-Some.kept.now ≡ Equal = c.in-Some.ensures.same_key in
    let same = same_key c.in_ok-name.name c.in-Some.kept.now equal in
    grind (arith, common_steps, same)
