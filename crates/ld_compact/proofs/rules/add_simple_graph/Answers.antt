use Rattle.std.proofs.Common.{rules}
use Rattle.ld_rec.specs.Outcome.{Refuses}
use Rattle.ld_rec.specs.Kinds.{null}
use Rattle.ld_compact.specs.Compaction.{simple_graph}
use Rattle.ld_compact.specs.Steps.{named}
use Rattle.ld_compact.proofs.Parts.{simple_refuses, simple_gives}
use Rattle.ld_compact.proofs.rules.add_simple_graph.Goals as goal

pub returns-in_err-graph : goal.returns-in_err-graph
returns-in_err-graph g c stock =
    let ends : Refuses c.in_err-graph.field-0.0 ((simple_graph (g.K.View.flat c.args.place.now.view.now) (named c.args.property.now) c.args.compacted c.args.made.now).run stock).result =
    simple_refuses stock (g.K.View.flat c.args.place.now.view.now) (named c.args.property.now) null c.args.compacted c.args.made.now c.in_err-graph.field-0.0 (c.in_err-graph.ensures stock) in
    search (rules, ends)

pub returns : goal.returns
returns g c stock =
    simple_gives stock (g.K.View.flat c.args.place.now.view.now) (named c.args.property.now) null c.args.compacted c.args.made.now c.in_ok-graph.graph c.add_value.new.self (c.in_ok-graph.ensures stock) c.in_ok-add_value.ensures
