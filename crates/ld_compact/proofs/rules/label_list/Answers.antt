use Rattle.std.proofs.Common.{◌∙◌, rules}
use Rattle.ld_rec.specs.Outcome.{Refuses}
use Rattle.ld_compact.specs.Compaction.{labelled_list}
use Rattle.ld_compact.proofs.Parts.{list_refuses, list_index_refuses, list_gives}
use Rattle.ld_compact.proofs.rules.label_list.Goals as goal

pub returns-in_err-put_under : goal.returns-in_err-put_under
returns-in_err-put_under g c stock =
    let ends : Refuses c.in_err-put_under.field-0.0 ((labelled_list (g.K.View.flat c.args.place.now.view.now) c.args.item.now c.args.list).run stock).result =
    list_refuses stock (g.K.View.flat c.args.place.now.view.now) c.args.item.now c.args.list c.new-made.result c.new-made.ensures c.in_err-put_under.field-0.0 (c.in_err-put_under.ensures stock) in
    search (rules, ends)

pub returns-in_err-put_under-2 : goal.returns-in_err-put_under-2
returns-in_err-put_under-2 g c stock =
    let ends : Refuses c.in_err-put_under-2.field-0.0 ((labelled_list (g.K.View.flat c.args.place.now.view.now) c.args.item.now c.args.list).run stock).result =
    list_index_refuses stock (g.K.View.flat c.args.place.now.view.now) c.args.item.now c.args.list c.new-made.result c.new-made.ensures c.put_under.new.made c.in_ok-index.index c.in_err-put_under-2.field-0.0
    (c.in_ok-put_under.ensures stock) (c.in_ok-index.ensures ∙ c.get.ensures) (c.in_err-put_under-2.ensures stock) in
    search (rules, ends)

pub returns : goal.returns
returns g c stock =
    list_gives stock (g.K.View.flat c.args.place.now.view.now) c.args.item.now c.args.list c.new-made.result c.new-made.ensures c.put_under.new.made c.put_under-2.new.made c.in_ok-index.index
    (c.in_ok-put_under.ensures stock) (c.in_ok-index.ensures ∙ c.get.ensures) (c.in_ok-put_under-2.ensures stock)
