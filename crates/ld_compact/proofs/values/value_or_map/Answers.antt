use Rattle.std.proofs.Common.{◌∙◌, sym, Ok, Err, rules}
use Rattle.std.specs.Prelude.{option_copied}
use Rattle.ld_rec.specs.Outcome.{Refuses}
use Rattle.ld_compact.specs.Compaction.{value_or_map}
use Rattle.ld_compact.proofs.Needed.{full_needed}
use Rattle.ld_compact.proofs.values.value_or_map.Goals as goal

pub returns-in_err-check_node : goal.returns-in_err-check_node
returns-in_err-check_node g c stock =
    let context = g.K.View.flat c.args.place.now.view.now in
    let property = option_copied c.args.place.now.property in
    let ends : Refuses c.in_err-check_node.field-0.0 ((value_or_map c.args.element.now context property).run stock).result =
    full_needed context property (sym c.holds_json.ensures ∙ c.if-not-holds_json.true) stock c.args.element.now (Err c.in_err-check_node.field-0.0) (sym c.may_need_no_map.ensures ∙ c.if-not-may_need_no_map.false)
    (sym c.is_full.ensures ∙ c.if-is_full.true) c.in_err-check_node.ensures in
    search (rules, ends)

pub returns-then-not-holds_json : goal.returns-then-not-holds_json
returns-then-not-holds_json g c stock =
    full_needed (g.K.View.flat c.args.place.now.view.now) (option_copied c.args.place.now.property) (sym c.holds_json.ensures ∙ c.if-not-holds_json.true) stock c.args.element.now (Ok tt)
    (sym c.may_need_no_map.ensures ∙ c.if-not-may_need_no_map.false) (sym c.is_full.ensures ∙ c.if-is_full.true) c.in_ok-check_node.ensures
