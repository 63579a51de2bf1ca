use Rattle.std.proofs.Common.{◌≡◌, ◌∙◌, ◌+◌, ◌∷◌, [], drop, refl, ap, rules}
use Rattle.std.proofs.Math.ListN.{drop_of_length-le}
use Rattle.ld_rec.specs.Outcome.{Refuses, each}
use Rattle.ld_rec.specs.Words.{text_of}
use Rattle.ld_compact.specs.Compaction.{add_type, compacted_types}
use Rattle.ld_compact.proofs.Stages.{loop_goes, loop_refuses, next_item}
use Rattle.ld_compact.proofs.names.compact_all_types.Goals as goal

pub loop-value-preserved : goal.loop-value-preserved
loop-value-preserved g c stock =
    let types = c.args.types.now in
    let i = c.loop-value.value-index in
    let comes : drop i types ≡ c.value-item.result ∷ drop (i + 1) types = next_item types i c.value-item.result c.loop-value-test.true c.value-item.is in
    loop_goes stock stock refl (λ type. add_type (g.K.View.flat c.args.place.now.view.now) (text_of type)) types (drop i types) (drop (i + 1) types) c.value-item.result [] c.loop-value.texts.items comes (c.loop-value.invariant stock)
    c.push_type.new.texts.items (c.in_ok-push_type.ensures stock)

pub returns-in_err-push_type : goal.returns-in_err-push_type
returns-in_err-push_type g c stock =
    let types = c.args.types.now in
    let i = c.loop-value.value-index in
    let comes : drop i types ≡ c.value-item.result ∷ drop (i + 1) types = next_item types i c.value-item.result c.loop-value-test.true c.value-item.is in
    let ends : Refuses c.in_err-push_type.field-0.0 ((compacted_types (g.K.View.flat c.args.place.now.view.now) types).run stock).result =
    loop_refuses stock stock refl (λ type. add_type (g.K.View.flat c.args.place.now.view.now) (text_of type)) types (drop i types) (drop (i + 1) types) c.value-item.result [] c.loop-value.texts.items comes (c.loop-value.invariant stock)
    c.in_err-push_type.field-0.0 (c.in_err-push_type.ensures stock) in
    search (rules, ends)

pub returns : goal.returns
returns g c stock =
    c.loop-value.invariant stock
    ∙ ap (λ l. ((each (λ type. add_type (g.K.View.flat c.args.place.now.view.now) (text_of type)) l c.loop-value.texts.items).run stock).result) (drop_of_length-le c.args.types.now c.loop-value-test.false)
