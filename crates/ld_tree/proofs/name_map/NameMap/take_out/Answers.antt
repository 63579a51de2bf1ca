use Rattle.std.proofs.Common.{ap, sym, subst, ◌∙◌}
use Rattle.std.specs.Map.{keys_of}
use Rattle.std.specs.BTreeMap.{is_at}
use Rattle.ld_tree.specs.Names.{AreInOrder, Sorted, same_sorted, name_cmp}
use Rattle.ld_tree.specs.InOrder.{in_order_remove}
use Rattle.ld_tree.specs.Maps.{find as value_at, take_out as without}
use Rattle.ld_tree.specs.Texts.{named}
use Rattle.ld_tree.proofs.Texts.{lookup_named, remove_named}
use Rattle.ld_tree.proofs.name_map.NameMap.take_out.Goals as goal

pub invariant_of-self-inside : goal.invariant_of-self-inside
invariant_of-self-inside g c =
    let name = c.args.name.now in
    let es = c.self.inside.by_name.entries in
    (subst (λ l. AreInOrder (keys_of l)) (sym (ap named c.remove.ensures.entries ∙ remove_named name es)) (in_order_remove (is_at (name_cmp name)) (named es) c.self.inside.in_order), tt)

pub returns-clause-former : goal.returns-clause-former
returns-clause-former g c = c.remove.ensures.value ∙ lookup_named c.args.name.now c.self.inside.by_name.entries ∙ ap (λ (s : Sorted g.row.T.Denot). value_at s c.args.name.now) c.self.view_is

pub returns-clause-map : goal.returns-clause-map
returns-clause-map g c =
    same_sorted _ _ (ap named c.remove.ensures.entries ∙ remove_named c.args.name.now c.self.inside.by_name.entries ∙ ap (λ (s : Sorted g.row.T.Denot). (without s c.args.name.now).0) c.self.view_is)
