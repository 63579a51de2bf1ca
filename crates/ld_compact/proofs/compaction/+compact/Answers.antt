use Rattle.std.proofs.Common.{◌≡◌, ◌∙◌, ap, sym, subst, rules, List, ℕ, true, Option, Ok, map}
use Rattle.std.specs.Prelude.{option_copied, ◌||◌}
use Rattle.ld_tree.specs.declared.tree.Tree.{Tree}
use Rattle.ld_rec.specs.Iris.{or_else}
use Rattle.ld_rec.specs.Kinds.{entries_of, is_list_object, is_graph_object}
use Rattle.ld_rec.specs.Outcome.{Refuses, Gives}
use Rattle.ld_compact.specs.Adding.{items_at}
use Rattle.ld_compact.specs.Compaction.{compacted_types, with_types, node_becomes, map_within}
use Rattle.ld_compact.specs.Elements.{Whole, value_at}
use Rattle.ld_compact.specs.Steps.{named, seen, placed, place_of, node_of, item_beside, entry_beside, all_beside, within_becomes}
use Rattle.ld_compact.proofs.Cycle.{map_gives, full_gives, found_gives, found_refuses, found_later, index_entry, kind_is_list, kind_is_graph, item_gives, within_refuses, within_value, within_needed, listed_gives, content_gives}
use Rattle.ld_compact.proofs.Stages.{gives_same}
use Rattle.ld_compact.proofs.compaction.+compact.Goals as goal
use Rattle.ld_compact.proofs.compaction.+compact.Goals.{compact_by_kind-then-is_list_object, compact_by_kind-else-is_list_object}

pub compact_map-returns-clause-answer : goal.compact_map-returns-clause-answer
compact_map-returns-clause-answer g t c =
    map_gives (g.W.Contexts.stock c.args.work.now) c.args.place.now.arrays c.args.element.now (λ b. all_beside b (entries_of c.args.element.now)) (g.W.Kept.View.flat c.args.place.now.view.now)
    (g.W.Kept.View.flat c.reverted-before.result.view.now) (option_copied c.args.place.now.property) (option_copied c.property_def-def.result) c.property_def-def.ensures.value c.reverted-before.ensures.context
    (g.W.Contexts.stock c.ready_if.new.work) c.active-within.result.arrays (option_copied c.active-within.result.property) (g.W.Kept.View.flat c.active-within.result.view.now) c.compact_within.result
    (c.in_ok-made.ensures.keeps.0 ∙ c.in_ok-applied.ensures.keeps.0) (c.active-within.ensures.arrays ∙ c.reverted-before.ensures.arrays) (c.active-within.ensures.property ∙ c.reverted-before.ensures.property)
    (c.in_ok-applied.ensures.answer ∙ ap (λ o. Ok (g.W.Kept.View.flat (or_else o c.reverted-before.result.view.now))) (sym c.in_ok-made.ensures.kept) ∙ ap (λ v. Ok (g.W.Kept.View.flat v)) (sym c.active-within.ensures.view))
    c.compact_within.ensures.answer

pub compact_within-returns-in_err-value-clause-answer : goal.compact_within-returns-in_err-value-clause-answer
compact_within-returns-in_err-value-clause-answer g t c =
    let stock = g.W.Contexts.stock c.args.work.now in
    let arrays = c.args.place.now.arrays in
    let entry = g.W.Kept.View.flat c.args.entry.now.view.now in
    let context = g.W.Kept.View.flat c.args.place.now.view.now in
    let property = option_copied c.args.place.now.property in
    let ends : Refuses c.in_err-value.field-0.0 ((map_within arrays c.args.element.now (all_beside arrays (entries_of c.args.element.now)) entry (place_of context property Whole)).run stock).result =
    within_refuses stock arrays c.args.element.now (all_beside arrays (entries_of c.args.element.now)) entry context property c.in_err-value.field-0.0 (c.in_err-value.ensures stock) in
    search (rules, ends)

pub compact_within-returns-in-Some-clause-answer : goal.compact_within-returns-in-Some-clause-answer
compact_within-returns-in-Some-clause-answer g t c =
    within_value (g.W.Contexts.stock c.args.work.now) c.args.place.now.arrays c.args.element.now (all_beside c.args.place.now.arrays (entries_of c.args.element.now)) (g.W.Kept.View.flat c.args.entry.now.view.now)
    (g.W.Kept.View.flat c.args.place.now.view.now) (option_copied c.args.place.now.property) c.in-Some.value (c.in_ok-value.ensures (g.W.Contexts.stock c.args.work.now) ∙ ap (λ (o : Option Tree). Ok o) c.in-Some.is)

pub compact_within-returns-in-None-clause-answer : goal.compact_within-returns-in-None-clause-answer
compact_within-returns-in-None-clause-answer g t c =
    within_needed (g.W.Contexts.stock c.args.work.now) c.args.place.now.arrays c.args.element.now (all_beside c.args.place.now.arrays (entries_of c.args.element.now)) (g.W.Kept.View.flat c.args.entry.now.view.now)
    (g.W.Kept.View.flat c.args.place.now.view.now) (option_copied c.args.place.now.property) c.compact_needed.result (c.in_ok-value.ensures (g.W.Contexts.stock c.args.work.now) ∙ ap (λ (o : Option Tree). Ok o) c.in-None.is)
    c.compact_needed.ensures.answer

pub compact_found-loop-key-preserved : goal.compact_found-loop-key-preserved
compact_found-loop-key-preserved g t c = (
  found_later c.args.place.now.arrays c.args.name.now c.args.entries.now.0 c.as_slice-key-items.result.now c.loop-key.key-index c.loop-key-item.result c.as_str.result.now c.loop-key-test.true c.loop-key-item.is c.as_str.ensures
      c.loop-key.invariant.0 (sym c.if-eq.ensures),
  c.loop-key.invariant.1,
)

pub compact_found-returns-in_err-compact_element-clause-answer : goal.compact_found-returns-in_err-compact_element-clause-answer
compact_found-returns-in_err-compact_element-clause-answer g t c =
    let stock = g.W.Contexts.stock c.args.work.now in
    let arrays = c.args.place.now.arrays in
    let context = g.W.Kept.View.flat c.args.place.now.view.now in
    let property = option_copied c.args.place.now.property in
    let ends : Refuses c.in_err-compact_element.field-0.0 ((within_becomes (value_at c.args.name.now (map (entry_beside arrays) c.args.entries.now.0)) (place_of context property Whole)).run stock).result =
    found_refuses arrays c.args.name.now c.args.entries.now.0 c.as_slice-key-items.result.now c.loop-key.key-index c.loop-key-item.result c.as_str.result.now c.loop-key-test.true c.loop-key-item.is c.as_str.ensures
    c.loop-key.invariant.0 stock (g.W.Contexts.stock c.loop-key.work) c.loop-key.invariant.1.0 context property (sym c.if-eq.ensures) c.in_err-compact_element.field-0.0 c.in_err-compact_element.ensures.answer in
    search (rules, ends)

pub compact_found-returns-in_err-compact_element-clause-keeps : goal.compact_found-returns-in_err-compact_element-clause-keeps
compact_found-returns-in_err-compact_element-clause-keeps g t c =
    (c.compact_element.ensures.keeps.0 ∙ c.loop-key.invariant.1.0, λ kept k. c.compact_element.ensures.keeps.1 kept (c.loop-key.invariant.1.1 kept k))

pub compact_found-returns-then-eq-clause-answer : goal.compact_found-returns-then-eq-clause-answer
compact_found-returns-then-eq-clause-answer g t c =
    found_gives c.args.place.now.arrays c.args.name.now c.args.entries.now.0 c.as_slice-key-items.result.now c.loop-key.key-index c.loop-key-item.result c.as_str.result.now c.loop-key-test.true c.loop-key-item.is c.as_str.ensures
    c.loop-key.invariant.0 (g.W.Contexts.stock c.args.work.now) (g.W.Contexts.stock c.loop-key.work) c.loop-key.invariant.1.0 (g.W.Kept.View.flat c.args.place.now.view.now) (option_copied c.args.place.now.property)
    (sym c.if-eq.ensures) c.in_ok-compact_element.field-0 c.in_ok-compact_element.ensures.answer

pub compact_found-returns-then-eq-clause-keeps : goal.compact_found-returns-then-eq-clause-keeps
compact_found-returns-then-eq-clause-keeps g t c =
    (c.compact_element.ensures.keeps.0 ∙ c.loop-key.invariant.1.0, λ kept k. c.compact_element.ensures.keeps.1 kept (c.loop-key.invariant.1.1 kept k))

pub compact_full-returns-clause-answer : goal.compact_full-returns-clause-answer
compact_full-returns-clause-answer g t c =
    let stock = g.W.Contexts.stock c.args.work.now in
    let entry = g.W.Kept.View.flat c.args.entry.now.view.now in
    let context = g.W.Kept.View.flat c.args.place.now.view.now in
    let types = c.in_ok-types.types.items in
    let made = g.W.Kept.View.flat c.active-within.result.view.now in
    let within = option_copied c.active-within.result.property in
    let arrays = c.active-within.result.arrays in
    let later = g.W.Contexts.stock c.ready_if.new.work in
    full_gives stock c.args.place.now.arrays c.args.element.now (λ b. all_beside b (entries_of c.args.element.now)) entry context (option_copied c.args.place.now.property) types
    (ap (λ (o : Option Tree). ((compacted_types entry (items_at o)).run stock).result) (sym c.get.ensures) ∙ c.in_ok-types.ensures stock)
    later arrays within made c.compact_node.result
    (c.in_ok-made.ensures.keeps.0 ∙ c.in_ok-applied.ensures.keeps.0) c.active-within.ensures.arrays c.active-within.ensures.property
    (ap (λ (l : List (List ℕ)). ((with_types entry l context).run stock).result) (sym c.as_slice.ensures.value) ∙ c.in_ok-applied.ensures.answer
    ∙ ap (λ o. Ok (g.W.Kept.View.flat (or_else o c.args.place.now.view.now))) (sym c.in_ok-made.ensures.kept) ∙ ap (λ v. Ok (g.W.Kept.View.flat v)) (sym c.active-within.ensures.view))
    (subst (λ (l : List (List ℕ)). Gives c.compact_node.result ((node_becomes arrays (all_beside arrays (entries_of c.args.element.now)) (node_of made within l)).run later).result) c.as_slice-2.ensures.value
    c.compact_node.ensures.answer)

pub push_item-returns-clause-answer : goal.push_item-returns-clause-answer
push_item-returns-clause-answer g t c =
    listed_gives (g.W.Contexts.stock c.args.work.now) (placed g.W.Kept.View.flat Whole c.args.place.now) (item_beside c.args.place.now.arrays c.args.item.now) c.in_ok-value.value c.args.compacted.now.items
    c.push_kept.new.compacted.items c.push_kept.result c.in_ok-value.ensures.answer (c.push_kept.ensures (g.W.Contexts.stock c.args.work.now))

pub add_entry-returns-then-eq-4-clause-answer : goal.add_entry-returns-then-eq-4-clause-answer
add_entry-returns-then-eq-4-clause-answer g t c =
    gives_same (λ done. c.add_index.new.made) c.add_index.result _ _
    (index_entry (g.W.Contexts.stock c.args.work.now) c.args.place.now.arrays (seen g.W.Kept.View.flat c.args.types.now c.args.place.now) (entry_beside c.args.place.now.arrays (c.args.name.now, c.args.value.now)) c.args.made.now
    (sym c.if-eq.ensures) (sym c.if-eq-2.ensures) (sym c.if-eq-3.ensures) (sym c.if-eq-4.ensures))
    (c.add_index.ensures (g.W.Contexts.stock c.args.work.now))

pub add_item-returns-clause-answer : goal.add_item-returns-clause-answer
add_item-returns-clause-answer g t c =
    item_gives (g.W.Contexts.stock c.args.work.now) c.args.place.now.arrays (seen g.W.Kept.View.flat c.args.types.now c.args.place.now) c.args.expanded.now (item_beside c.args.place.now.arrays c.args.item.now)
    c.in_ok-name.name c.as_str.result.now (named c.property_of-property.result) c.args.made.now c.add_under.new.made c.add_under.result (c.in_ok-name.ensures (g.W.Contexts.stock c.args.work.now)) c.as_str.ensures
    c.property_of-property.ensures c.add_under.ensures.answer

pub compact_by_kind-returns-then-is_graph_object-clause-answer : goal.compact_by_kind-returns-then-is_graph_object-clause-answer
compact_by_kind-returns-then-is_graph_object-clause-answer g t c =
    let item = c.args.item.now in
    let either : is_list_object item || is_graph_object item ≡ true =
    elim c.if-is_list_object.branch [
      | compact_by_kind-then-is_list_object w ↦ ap (λ b. b || is_graph_object item) (sym c.is_list_object.ensures ∙ w.if-is_list_object.true)
      | compact_by_kind-else-is_list_object w ↦
          ap (λ b. b || is_graph_object item) (sym c.is_list_object.ensures ∙ w.if-is_list_object.false) ∙ sym w.is_graph_object.ensures ∙ sym w.value-is ∙ c.if-is_graph_object.true
    ] in
    content_gives c.args.place.now.arrays (g.W.Kept.View.flat c.args.place.now.view.now) (option_copied c.args.place.now.property) (g.W.Contexts.stock c.args.work.now) item c.compact_content.result either
    c.compact_content.ensures.answer

pub add_by_kind-returns-then-is_list_object-clause-answer : goal.add_by_kind-returns-then-is_list_object-clause-answer
add_by_kind-returns-then-is_list_object-clause-answer g t c =
    let stock = g.W.Contexts.stock c.args.work.now in
    gives_same (λ done. c.add_list.new.made) c.add_list.result _ _
    (kind_is_list stock (g.W.Kept.View.flat c.args.place.now.view.now) (named c.args.property.now) (item_beside c.args.place.now.arrays c.args.item.now) c.args.compacted c.args.made.now
    (sym c.is_list_object.ensures ∙ c.if-is_list_object.true)) (c.add_list.ensures stock)

pub add_by_kind-returns-then-is_graph_object-clause-answer : goal.add_by_kind-returns-then-is_graph_object-clause-answer
add_by_kind-returns-then-is_graph_object-clause-answer g t c =
    let stock = g.W.Contexts.stock c.args.work.now in
    gives_same (λ done. c.add_graph.new.made) c.add_graph.result _ _
    (kind_is_graph stock (g.W.Kept.View.flat c.args.place.now.view.now) (named c.args.property.now) (item_beside c.args.place.now.arrays c.args.item.now) c.args.compacted c.args.made.now
    (sym c.is_list_object.ensures ∙ c.if-is_list_object.false) (sym c.is_graph_object.ensures ∙ c.if-is_graph_object.true)) (c.add_graph.ensures stock)
