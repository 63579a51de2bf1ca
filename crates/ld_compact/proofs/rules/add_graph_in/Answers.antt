use Rattle.ld_compact.specs.Compaction.{whole_graph, simple_graph, graph_in}
use Rattle.ld_compact.specs.Steps.{named}
use Rattle.ld_compact.proofs.Stages.{gives_same}
use Rattle.ld_compact.proofs.Parts.{graph_in_whole, graph_in_simple, simple_by}
use Rattle.std.proofs.Common.{◌∙◌, sym, true, false}
use Rattle.ld_compact.proofs.rules.add_graph_in.Goals as goal

pub returns-then-is_some : goal.returns-then-is_some
returns-then-is_some g c stock =
    let context = g.K.View.flat c.args.place.now.view.now in
    let property = named c.args.property.now in
    gives_same (λ done. c.add_whole_graph.new.made) c.add_whole_graph.result ((whole_graph context property c.args.item.now c.args.compacted c.args.made.now).run stock).result
    ((graph_in context property c.args.item.now c.args.compacted c.args.made.now).run stock).result
    (graph_in_whole stock context property c.args.item.now c.args.compacted c.args.made.now c.if-property.false (simple_by c.args.item.now c.get.result true c.get.ensures (sym c.is_some.ensures ∙ c.if-is_some.true)))
    (c.add_whole_graph.ensures stock)

pub returns-else-property-2 : goal.returns-else-property-2
returns-else-property-2 g c stock =
    let context = g.K.View.flat c.args.place.now.view.now in
    let property = named c.args.property.now in
    gives_same (λ done. c.add_simple_graph.new.made) c.add_simple_graph.result ((simple_graph context property c.args.compacted c.args.made.now).run stock).result
    ((graph_in context property c.args.item.now c.args.compacted c.args.made.now).run stock).result
    (graph_in_simple stock context property c.args.item.now c.args.compacted c.args.made.now c.if-property.false (simple_by c.args.item.now c.get.result false c.get.ensures (sym c.is_some.ensures ∙ c.if-is_some.false)) c.if-property-2.false)
    (c.add_simple_graph.ensures stock)
