use Rattle.std.proofs.Common.{sym, ap, subst, ◌∙◌}
use Rattle.std.specs.Map.{keys_of, lookup}
use Rattle.std.specs.BTreeMap.{is_at}
use Rattle.ld_tree.specs.Names.{name_cmp, IsAt, IsPlace}
use Rattle.ld_tree.proofs.Search.{found, none_found}
use Rattle.ld_tree.proofs.entries.Entries.get.Goals as goal

pub returns-in-Ok : goal.returns-in-Ok
returns-in-Ok g c =
    let name = c.args.name.now in
    let es = c.self.inside.entries.items in
    let at = subst (λ s. IsAt name (keys_of s) c.in-Ok.at) c.as_slice.ensures.value c.in-Ok.ensures in
    sym (found name es c.in-Ok.at c.index.result.now c.self.inside.in_order at c.index.ensures) ∙ ap (lookup (is_at (name_cmp name))) (ap (λ s. s.0) c.self.view_is)

pub returns-in-Err : goal.returns-in-Err
returns-in-Err g c =
    let name = c.args.name.now in
    let es = c.self.inside.entries.items in
    let place = subst (λ s. IsPlace name (keys_of s) c.in-Err.field-0) c.as_slice.ensures.value c.in-Err.ensures in
    sym (none_found name es c.in-Err.field-0 place) ∙ ap (lookup (is_at (name_cmp name))) (ap (λ s. s.0) c.self.view_is)
