use Rattle.std.proofs.Common.{◌≡◌, ◌∙◌, sym, subst, rules}
use Rattle.std.specs.Prelude.{Ok}
use Rattle.ld_tree.specs.declared.tree.Tree.TheVariants as t
use Rattle.ld_nodes.specs.Flat.{Flattens}
use Rattle.ld_nodes.specs.Numbers.{numbers_flattened}
use Rattle.ld_nodes.proofs.Agreeing.{flattened_alike}
use Rattle.ld_nodes.proofs.flat.flatten.Goals as goal

pub returns-in_err-visit : goal.returns-in_err-visit
returns-in_err-visit c =
    let by_numbers : Flattens c.from_residual.result (numbers_flattened c.args.expanded.now) = search rules in
    subst (Flattens c.from_residual.result) (flattened_alike c.args.expanded.now) by_numbers

pub returns : goal.returns
returns c =
    let by_numbers : numbers_flattened c.args.expanded.now ≡ Ok (t.List c.in_ok-flat_objects.field-0) = search rules in
    sym (flattened_alike c.args.expanded.now) ∙ by_numbers
