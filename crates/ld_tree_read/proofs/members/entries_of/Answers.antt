use Rattle.std.proofs.Common.{◌≡◌, ◌∙◌, sym, subst, rules, refl}
use Rattle.std.specs.Result.{IfOk}
use Rattle.std.specs.Cmp.Lexicographic.{nat_list_cmp_total}
use Rattle.std.proofs.lemmas.List.Sorted.{answers_always, ranks_by}
use Rattle.std.specs.Map.{keys_of}
use Rattle.ld_tree.specs.Names.{AreInOrder}
use Rattle.ld_tree.specs.declared.tree.Tree as t
use Rattle.ld_tree_read.proofs.Stable.{stable_same, before, put_in_order}
use Rattle.ld_tree_read.proofs.members.entries_of.Goals as goal

pub returns : goal.returns
returns c =
    subst (λ x. IfOk c.in_turn.result (λ es. es.0 ≡ x))
    (stable_same t.Null c.args.members.items c.sort_by.new.self.items (c.sort_by.ensures.stable before (ranks_by nat_list_cmp_total (λ x. x.0)) (answers_always _ _ _ (λ f a r g h. search rules)))) c.in_turn.ensures

pub returns-then-are_in_order : goal.returns-then-are_in_order
returns-then-are_in_order c =
    let order = subst (λ ms. AreInOrder (keys_of ms)) c.as_slice.ensures.value (c.if-are_in_order.ensures refl) in
    c.from_sorted.ensures ∙ sym (put_in_order c.args.members.items order)

pub returns-then-are_in_order-2 : goal.returns-then-are_in_order-2
returns-then-are_in_order-2 c =
    let sorted = c.sort_by.new.self.items in
    let order = subst (λ ms. AreInOrder (keys_of ms)) c.as_slice-2.ensures.value (c.if-are_in_order-2.ensures refl) in
    c.from_sorted-then-are_in_order-2.ensures ∙ sym (put_in_order sorted order)
    ∙ stable_same t.Null c.args.members.items sorted (c.sort_by.ensures.stable before (ranks_by nat_list_cmp_total (λ x. x.0)) (answers_always _ _ _ (λ f a r g h. search rules)))
