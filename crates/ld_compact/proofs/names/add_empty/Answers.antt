use Rattle.std.proofs.Common.{[], rules}
use Rattle.ld_rec.specs.Outcome.{Refuses}
use Rattle.ld_compact.specs.Compaction.{empty_rule}
use Rattle.ld_compact.specs.Steps.{seen}
use Rattle.ld_compact.proofs.Parts.{empty_refuses, empty_gives}
use Rattle.ld_compact.proofs.names.add_empty.Goals as goal

pub returns-in_err-name : goal.returns-in_err-name
returns-in_err-name g c stock =
    let ends : Refuses c.in_err-name.field-0.0 ((empty_rule (seen g.K.View.flat [] c.args.place.now) c.args.expanded.now c.args.made.now).run stock).result =
    empty_refuses stock (seen g.K.View.flat [] c.args.place.now) c.args.expanded.now c.new.result c.new.ensures c.args.made.now c.in_err-name.field-0.0 (c.in_err-name.ensures stock) in
    search (rules, ends)

pub returns : goal.returns
returns g c stock =
    empty_gives stock (seen g.K.View.flat [] c.args.place.now) c.args.expanded.now c.new.result c.new.ensures c.args.made.now c.add_value.new.self c.in_ok-name.name c.as_str.result.now (c.in_ok-name.ensures stock)
    c.as_str.ensures c.in_ok-add_value.ensures
