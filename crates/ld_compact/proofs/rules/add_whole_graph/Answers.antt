use Rattle.std.proofs.Common.{rules}
use Rattle.ld_rec.specs.Outcome.{Refuses}
use Rattle.ld_compact.specs.Compaction.{whole_graph}
use Rattle.ld_compact.specs.Steps.{named}
use Rattle.ld_compact.proofs.Parts.{whole_refuses, whole_gives}
use Rattle.ld_compact.proofs.rules.add_whole_graph.Goals as goal

pub returns-in_err-labelled : goal.returns-in_err-labelled
returns-in_err-labelled g c stock =
    let ends : Refuses c.in_err-labelled.field-0.0 ((whole_graph (g.K.View.flat c.args.place.now.view.now) (named c.args.property.now) c.args.item.now c.args.compacted c.args.made.now).run stock).result =
    whole_refuses stock (g.K.View.flat c.args.place.now.view.now) (named c.args.property.now) c.args.item.now c.args.compacted c.args.made.now c.in_err-labelled.field-0.0 (c.in_err-labelled.ensures stock) in
    search (rules, ends)

pub returns : goal.returns
returns g c stock =
    whole_gives stock (g.K.View.flat c.args.place.now.view.now) (named c.args.property.now) c.args.item.now c.args.compacted c.args.made.now c.in_ok-labelled.labelled c.add_made.new.made c.add_made.result (c.in_ok-labelled.ensures stock)
    (c.add_made.ensures stock)
