use Rattle.std.proofs.Common.{◌∙◌, ap, sym, rules, Option, Ok}
use Rattle.std.specs.Prelude.{option_copied}
use Rattle.ld_tree.specs.declared.tree.Tree.{Tree}
use Rattle.ld_rec.specs.Outcome.{Refuses}
use Rattle.ld_compact.specs.Elements.{Whole}
use Rattle.ld_compact.specs.Steps.{only_becomes, place_of}
use Rattle.ld_compact.proofs.Only.{only_refuses, only_value, only_id_refuses, only_id, only_nothing}
use Rattle.ld_compact.proofs.compaction.compact_only.Goals as goal
use Rattle.ld_compact.proofs.compaction.compact_only.Goals.{in-Some-id+in_ok-add_id, in_default-id}

pub returns-in_err-value : goal.returns-in_err-value
returns-in_err-value g c stock =
    let context = g.K.View.flat c.args.place.now.view.now in
    let property = option_copied c.args.place.now.property in
    let ends : Refuses c.in_err-value.field-0.0 ((only_becomes c.args.id.now c.args.only.now (place_of context property Whole)).run stock).result =
    only_refuses stock c.args.id.now c.args.only.now context property c.in_err-value.field-0.0 (c.in_err-value.ensures stock) in
    search (rules, ends)

pub returns-in-Some : goal.returns-in-Some
returns-in-Some g c stock =
    only_value stock c.args.id.now c.args.only.now (g.K.View.flat c.args.place.now.view.now) (option_copied c.args.place.now.property) c.in-Some.value
    (c.in_ok-value.ensures stock ∙ ap (λ (o : Option Tree). Ok o) c.in-Some.is)

pub returns-in_err-add_id : goal.returns-in_err-add_id
returns-in_err-add_id g c stock =
    let context = g.K.View.flat c.args.place.now.view.now in
    let property = option_copied c.args.place.now.property in
    let ends : Refuses c.in_err-add_id.field-0.0 ((only_becomes c.args.id.now c.args.only.now (place_of context property Whole)).run stock).result =
    only_id_refuses stock c.args.id.now c.args.only.now context property (c.in_ok-value.ensures stock ∙ ap (λ (o : Option Tree). Ok o) c.in_default.is) c.in-Some-id.id c.in-Some-id.is c.new-made.result c.new-made.ensures
    c.in_err-add_id.field-0.0 (c.in_err-add_id.ensures stock) in
    search (rules, ends)

pub returns : goal.returns
returns g c stock =
    let context = g.K.View.flat c.args.place.now.view.now in
    let property = option_copied c.args.place.now.property in
    elim c.match-id.branch [
      | in-Some-id+in_ok-add_id w ↦
          only_id stock c.args.id.now c.args.only.now context property (c.in_ok-value.ensures stock ∙ ap (λ (o : Option Tree). Ok o) c.in_default.is) w.in-Some-id.id w.in-Some-id.is c.new-made.result c.new-made.ensures
          c.match-id.made c.in_ok-into_map.field-0 (w.in_ok-add_id.ensures stock ∙ ap (λ m. Ok m) (sym w.made-is)) c.in_ok-into_map.ensures
      | in_default-id w ↦
          only_nothing stock c.args.id.now c.args.only.now context property (c.in_ok-value.ensures stock ∙ ap (λ (o : Option Tree). Ok o) c.in_default.is) c.match-id.made c.in_ok-into_map.field-0 w.in_default-id.is
          (w.made-is ∙ c.new-made.ensures) c.in_ok-into_map.ensures
    ]
