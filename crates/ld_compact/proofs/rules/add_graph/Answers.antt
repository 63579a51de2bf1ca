use Rattle.ld_compact.specs.Compaction.{whole_graph, graph_in, graph_item}
use Rattle.ld_compact.specs.Steps.{named}
use Rattle.ld_compact.proofs.Stages.{gives_same}
use Rattle.ld_compact.proofs.Parts.{graph_item_within, graph_item_whole}
use Rattle.ld_compact.proofs.rules.add_graph.Goals as goal

pub returns-then-property : goal.returns-then-property
returns-then-property g c stock =
    let context = g.K.View.flat c.args.place.now.view.now in
    let property = named c.args.property.now in
    gives_same (λ done. c.add_graph_in.new.made) c.add_graph_in.result ((graph_in context property c.args.item.now c.args.compacted c.args.made.now).run stock).result
    ((graph_item context property c.args.item.now c.args.compacted c.args.made.now).run stock).result
    (graph_item_within stock context property c.args.item.now c.args.compacted c.args.made.now c.if-property.true) (c.add_graph_in.ensures stock)

pub returns-else-property : goal.returns-else-property
returns-else-property g c stock =
    let context = g.K.View.flat c.args.place.now.view.now in
    let property = named c.args.property.now in
    gives_same (λ done. c.add_whole_graph.new.made) c.add_whole_graph.result ((whole_graph context property c.args.item.now c.args.compacted c.args.made.now).run stock).result
    ((graph_item context property c.args.item.now c.args.compacted c.args.made.now).run stock).result
    (graph_item_whole stock context property c.args.item.now c.args.compacted c.args.made.now c.if-property.false) (c.add_whole_graph.ensures stock)
