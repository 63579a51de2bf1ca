use Rattle.std.proofs.Common.{◌≡◌, ◌∙◌, ap, sym, map, [], Ok, Some, rules}
use Rattle.std.proofs.Math.ListN.{drop_of_length-le}
use Rattle.std.specs.Prelude.{option_copied}
use Rattle.ld_tree.specs.declared.tree.Tree.TheVariants as V
use Rattle.ld_rec.specs.Kinds.{list_of}
use Rattle.ld_rec.specs.Outcome.{Refuses, each}
use Rattle.ld_rec.specs.Places.{containers_of}
use Rattle.ld_rec.specs.Expansion.{add_key, keyed_becomes}
use Rattle.ld_expand.specs.Steps.{placed, seen, beside, entry_beside}
use Rattle.ld_expand.proofs.Cycle.{entry_goes, entry_refuses, keyed_gives, keyed_refuses, property_gives}
use Rattle.ld_expand.proofs.expansion.+expand.Goals as goal

pub add_by_property-returns-in-Some-clause-answer : goal.add_by_property-returns-in-Some-clause-answer
add_by_property-returns-in-Some-clause-answer g t c =
    property_gives (g.C.Contexts.stock c.args.contexts.now) (seen g.C.Kept.View.flat c.args.node.now) c.args.iri c.args.name.now (beside (option_copied c.args.node.now.base) c.args.value.now) _ (option_copied c.def-def.result)
    c.in_ok-tree.field-0 c.in-Some.tree c.args.made.now c.add_property.new.made c.add_property.result c.def-def.ensures c.in_ok-tree.ensures.answer c.in-Some.is
    (c.add_property.ensures (g.C.Contexts.stock c.args.contexts.now))

pub expand_keyed-loop-key-preserved : goal.expand_keyed-loop-key-preserved
expand_keyed-loop-key-preserved g t c =
    let inv = c.loop-key.invariant in (
      entry_goes (g.C.Contexts.stock c.args.contexts.now) (g.C.Contexts.stock c.loop-key.contexts) inv.1.0 (add_key c.containers_of-containers.result (placed g.C.Kept.View.flat c.args.place.now)) (option_copied c.args.place.now.base)
          c.args.entries.now.0 c.as_slice-key-items.result.now c.loop-key.key-index c.loop-key-item.result c.as_str.result.now c.loop-key-test.true c.loop-key-item.is c.as_str.ensures [] c.loop-key.joined.items inv.0
          c.add_key.new.joined.items c.in_ok-add_key.ensures.answer,
      (c.in_ok-add_key.ensures.keeps.0 ∙ inv.1.0, λ kept k. c.in_ok-add_key.ensures.keeps.1 kept (inv.1.1 kept k)),
    )

pub expand_keyed-returns-in_err-add_key-clause-answer : goal.expand_keyed-returns-in_err-add_key-clause-answer
expand_keyed-returns-in_err-add_key-clause-answer g t c =
    let inv = c.loop-key.invariant in
    let ends : Refuses c.in_err-add_key.field-0.0 ((keyed_becomes (map (entry_beside (option_copied c.args.place.now.base)) c.args.entries.now.0) (placed g.C.Kept.View.flat c.args.place.now)).run (g.C.Contexts.stock c.args.contexts.now)).result =
    keyed_refuses (g.C.Contexts.stock c.args.contexts.now) c.containers_of-containers.result (map (entry_beside (option_copied c.args.place.now.base)) c.args.entries.now.0) (placed g.C.Kept.View.flat c.args.place.now)
    (c.containers_of-containers.ensures ∙ ap containers_of c.property_def.ensures) c.in_err-add_key.field-0.0
    (entry_refuses (g.C.Contexts.stock c.args.contexts.now) (g.C.Contexts.stock c.loop-key.contexts) inv.1.0 (add_key c.containers_of-containers.result (placed g.C.Kept.View.flat c.args.place.now)) (option_copied c.args.place.now.base)
    c.args.entries.now.0 c.as_slice-key-items.result.now c.loop-key.key-index c.loop-key-item.result c.as_str.result.now c.loop-key-test.true c.loop-key-item.is c.as_str.ensures [] c.loop-key.joined.items inv.0
    c.in_err-add_key.field-0.0 c.in_err-add_key.ensures.answer) in
    search (rules, ends)

pub expand_keyed-returns-clause-answer : goal.expand_keyed-returns-clause-answer
expand_keyed-returns-clause-answer g t c =
    let step = add_key c.containers_of-containers.result (placed g.C.Kept.View.flat c.args.place.now) in
    let base = option_copied c.args.place.now.base in
    let all : ((each step (map (entry_beside base) c.args.entries.now.0) []).run (g.C.Contexts.stock c.args.contexts.now)).result ≡ Ok c.loop-key.joined.items =
    c.loop-key.invariant.0
    ∙ ap (λ l. ((each step (map (entry_beside base) l) c.loop-key.joined.items).run (g.C.Contexts.stock c.args.contexts.now)).result) (drop_of_length-le c.as_slice-key-items.result.now c.loop-key-test.false) in
    keyed_gives (g.C.Contexts.stock c.args.contexts.now) c.containers_of-containers.result (map (entry_beside (option_copied c.args.place.now.base)) c.args.entries.now.0) (placed g.C.Kept.View.flat c.args.place.now)
    (c.containers_of-containers.ensures ∙ ap containers_of c.property_def.ensures) c.loop-key.joined.items all
    ∙ ap (λ l. Ok (Some l)) (ap list_of (sym c.from_vec.ensures) ∙ V.rolls-List c.from_vec.result)
