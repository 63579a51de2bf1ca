use Rattle.std.proofs.Common.{◌∙◌, sym, ap}
use Rattle.std.proofs.lemmas.Result.{on_ok_weaker}
use Rattle.ld_tree.specs.Maps.{find}
use Rattle.ld_compact.specs.Adding.{holds_other}
use Rattle.ld_compact.proofs.Slots.{key_added, beside_added}
use Rattle.ld_compact.proofs.making.Making.add_keyed.Goals as goal

pub returns-then-holds_other : goal.returns-then-holds_other
returns-then-holds_other c =
    on_ok_weaker c.add_value.result (λ e.
    beside_added c.args.self.now c.add_value.new.self c.add_value_in.new.map c.in_ok-entries_of.field-0 c.new-map.result c.args.name.now c.args.key.now c.args.as_list c.args.value
    (ap (λ m. holds_other (find m c.args.name.now)) (sym c.self.view_is) ∙ sym c.holds_other.ensures ∙ c.if-holds_other.true) c.new-map.ensures c.in_ok-add_value_in.ensures c.in_ok-entries_of.ensures e)
    c.add_value.ensures

pub returns : goal.returns
returns c =
    on_ok_weaker c.put_in.result (λ e.
    key_added c.self.inside.slots c.vacate-former.new.map c.put_in.new.map c.args.self.now c.vacate-former.result c.self.view_is c.args.name.now c.in_ok-from_str.field-0 c.args.key.now c.args.as_list c.args.value
    c.in_ok-map.map c.add_value_in-2.new.map c.in_ok-from_str.ensures
    (ap (λ m. holds_other (find m c.args.name.now)) (sym c.self.view_is) ∙ sym c.holds_other.ensures ∙ c.if-holds_other.false)
    c.vacate-former.ensures.former c.vacate-former.ensures.rest c.in_ok-map.ensures c.in_ok-add_value_in-2.ensures e)
    c.put_in.ensures
