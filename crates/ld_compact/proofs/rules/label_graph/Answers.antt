use Rattle.std.proofs.Common.{◌∙◌, rules}
use Rattle.std.specs.Prelude.{option_copied}
use Rattle.ld_rec.specs.Outcome.{Refuses}
use Rattle.ld_compact.specs.Compaction.{labelled_graph}
use Rattle.ld_compact.proofs.Parts.{graph_refuses, graph_id_refuses, graph_name_refuses, graph_index_refuses, graph_gives}
use Rattle.ld_compact.proofs.rules.label_graph.Goals as goal

pub returns-in_err-put_under : goal.returns-in_err-put_under
returns-in_err-put_under g c stock =
    let ends : Refuses c.in_err-put_under.field-0.0 ((labelled_graph (g.K.View.flat c.args.place.now.view.now) c.args.item.now c.args.compacted).run stock).result =
    graph_refuses stock (g.K.View.flat c.args.place.now.view.now) c.args.item.now c.args.compacted c.new-made.result c.new-made.ensures c.in_err-put_under.field-0.0 (c.in_err-put_under.ensures stock) in
    search (rules, ends)

pub returns-in_err-id : goal.returns-in_err-id
returns-in_err-id g c stock =
    let ends : Refuses c.in_err-id.field-0.0 ((labelled_graph (g.K.View.flat c.args.place.now.view.now) c.args.item.now c.args.compacted).run stock).result =
    graph_id_refuses stock (g.K.View.flat c.args.place.now.view.now) c.args.item.now c.args.compacted c.new-made.result c.new-made.ensures c.put_under.new.made (c.in_ok-put_under.ensures stock)
    (option_copied c.get.result) c.get.ensures c.in_err-id.field-0.0 (c.in_err-id.ensures stock) in
    search (rules, ends)

pub returns-in_err-put_under-2 : goal.returns-in_err-put_under-2
returns-in_err-put_under-2 g c stock =
    let ends : Refuses c.in_err-put_under-2.field-0.0 ((labelled_graph (g.K.View.flat c.args.place.now.view.now) c.args.item.now c.args.compacted).run stock).result =
    graph_name_refuses stock (g.K.View.flat c.args.place.now.view.now) c.args.item.now c.args.compacted c.new-made.result c.new-made.ensures c.put_under.new.made (c.in_ok-put_under.ensures stock)
    (option_copied c.get.result) c.get.ensures c.in_ok-id.id (c.in_ok-id.ensures stock) c.in_err-put_under-2.field-0.0 (c.in_err-put_under-2.ensures stock) in
    search (rules, ends)

pub returns-in_err-put_under-3 : goal.returns-in_err-put_under-3
returns-in_err-put_under-3 g c stock =
    let ends : Refuses c.in_err-put_under-3.field-0.0 ((labelled_graph (g.K.View.flat c.args.place.now.view.now) c.args.item.now c.args.compacted).run stock).result =
    graph_index_refuses stock (g.K.View.flat c.args.place.now.view.now) c.args.item.now c.args.compacted c.new-made.result c.new-made.ensures c.put_under.new.made (c.in_ok-put_under.ensures stock)
    (option_copied c.get.result) c.get.ensures c.in_ok-id.id (c.in_ok-id.ensures stock) c.put_under-2.new.made c.in_ok-index.index (c.in_ok-put_under-2.ensures stock) (c.in_ok-index.ensures ∙ c.get-2.ensures)
    c.in_err-put_under-3.field-0.0 (c.in_err-put_under-3.ensures stock) in
    search (rules, ends)

pub returns : goal.returns
returns g c stock =
    graph_gives stock (g.K.View.flat c.args.place.now.view.now) c.args.item.now c.args.compacted c.new-made.result c.new-made.ensures c.put_under.new.made (c.in_ok-put_under.ensures stock)
    (option_copied c.get.result) c.get.ensures c.in_ok-id.id (c.in_ok-id.ensures stock) c.put_under-2.new.made c.in_ok-index.index (c.in_ok-put_under-2.ensures stock) (c.in_ok-index.ensures ∙ c.get-2.ensures)
    c.put_under-3.new.made (c.in_ok-put_under-3.ensures stock)
