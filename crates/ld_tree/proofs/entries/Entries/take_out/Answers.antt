use Rattle.std.proofs.Common.{sym, ap, subst, ◌∙◌}
use Rattle.ld_tree.specs.Names.{same_sorted, Sorted, AreInOrder, name_cmp, IsAt, IsPlace}
use Rattle.ld_tree.specs.InOrder.{in_order_remove}
use Rattle.ld_tree.specs.Maps.{find as value_at}
use Rattle.std.specs.Map.{keys_of, remove_entry}
use Rattle.std.specs.BTreeMap.{is_at}
use Rattle.ld_tree.proofs.Search.{found, none_found, taken_found, remove_none}
use Rattle.ld_tree.proofs.entries.Entries.take_out.Goals as goal

pub invariant_of-self-inside : goal.invariant_of-self-inside
invariant_of-self-inside g c =
    let name = c.args.name.now in
    let es = c.self.inside.entries.items in
    let at = subst (λ s. IsAt name (keys_of s) c.in-Ok.at) c.as_slice.ensures.value c.in-Ok.ensures in (
      subst (λ s. AreInOrder (keys_of s)) (sym (c.remove-former.ensures.items ∙ taken_found name es c.in-Ok.at c.remove-former.result c.self.inside.in_order at c.remove-former.ensures.value))
          (in_order_remove (is_at (name_cmp name)) es c.self.inside.in_order),
      tt,
    )

pub returns-in-Ok-clause-former : goal.returns-in-Ok-clause-former
returns-in-Ok-clause-former g c =
    let name = c.args.name.now in
    let es = c.self.inside.entries.items in
    let at = subst (λ s. IsAt name (keys_of s) c.in-Ok.at) c.as_slice.ensures.value c.in-Ok.ensures in
    sym (found name es c.in-Ok.at c.remove-former.result c.self.inside.in_order at c.remove-former.ensures.value) ∙ ap (λ (s : Sorted g.row.T.Denot). value_at s name) c.self.view_is

pub returns-in-Ok-clause-map : goal.returns-in-Ok-clause-map
returns-in-Ok-clause-map g c =
    let name = c.args.name.now in
    let es = c.self.inside.entries.items in
    let at = subst (λ s. IsAt name (keys_of s) c.in-Ok.at) c.as_slice.ensures.value c.in-Ok.ensures in
    same_sorted _ _ (c.remove-former.ensures.items ∙ taken_found name es c.in-Ok.at c.remove-former.result c.self.inside.in_order at c.remove-former.ensures.value
    ∙ ap (λ (s : Sorted g.row.T.Denot). remove_entry (is_at (name_cmp name)) s.0) c.self.view_is)

pub returns-in-Err-clause-former : goal.returns-in-Err-clause-former
returns-in-Err-clause-former g c =
    let name = c.args.name.now in
    let es = c.self.inside.entries.items in
    let place = subst (λ s. IsPlace name (keys_of s) c.in-Err.field-0) c.as_slice.ensures.value c.in-Err.ensures in
    sym (none_found name es c.in-Err.field-0 place) ∙ ap (λ (s : Sorted g.row.T.Denot). value_at s name) c.self.view_is

pub returns-in-Err-clause-map : goal.returns-in-Err-clause-map
returns-in-Err-clause-map g c =
    let name = c.args.name.now in
    let es = c.self.inside.entries.items in
    let place = subst (λ s. IsPlace name (keys_of s) c.in-Err.field-0) c.as_slice.ensures.value c.in-Err.ensures in
    same_sorted _ _ (remove_none name _ (ap (λ (s : Sorted g.row.T.Denot). value_at s name) (sym c.self.view_is) ∙ none_found name es c.in-Err.field-0 place))
