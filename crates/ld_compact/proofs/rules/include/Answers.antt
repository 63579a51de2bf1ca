use Rattle.std.proofs.Common.{◌∙◌, sym, rules}
use Rattle.ld_rec.specs.Outcome.{Refuses}
use Rattle.ld_compact.specs.Compaction.{included_if_several}
use Rattle.ld_compact.proofs.Parts.{included_refuses, included_gives}
use Rattle.ld_compact.proofs.rules.include.Goals as goal

pub returns-in_err-put_under : goal.returns-in_err-put_under
returns-in_err-put_under g c stock =
    let ends : Refuses c.in_err-put_under.field-0.0 ((included_if_several (g.K.View.flat c.args.place.now.view.now) c.args.compacted).run stock).result =
    included_refuses stock (g.K.View.flat c.args.place.now.view.now) c.args.compacted (sym c.are_several.ensures ∙ c.if-not-are_several.false) c.new-made.result c.new-made.ensures c.in_err-put_under.field-0.0
    (c.in_err-put_under.ensures stock) in
    search (rules, ends)

pub returns : goal.returns
returns g c stock =
    included_gives stock (g.K.View.flat c.args.place.now.view.now) c.args.compacted (sym c.are_several.ensures ∙ c.if-not-are_several.false) c.new-made.result c.new-made.ensures c.put_under.new.made c.in_ok-into_map.field-0
    (c.in_ok-put_under.ensures stock) c.in_ok-into_map.ensures
