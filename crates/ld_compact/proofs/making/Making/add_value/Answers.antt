use Rattle.std.proofs.Common.{◌∙◌, sym, ap}
use Rattle.std.proofs.lemmas.Result.{on_ok_weaker}
use Rattle.ld_compact.specs.Slots.{adds_nothing}
use Rattle.ld_compact.proofs.Slots.{value_added, nothing_added}
use Rattle.ld_compact.proofs.making.Making.add_value.Goals as goal

pub returns-then-is_nothing : goal.returns-then-is_nothing
returns-then-is_nothing c =
    nothing_added c.args.self.now c.args.name.now c.args.as_list c.args.value c.in_ok-values.values.items c.in_ok-values.ensures
    (ap (adds_nothing c.args.as_list) (sym c.as_slice.ensures.value) ∙ sym c.is_nothing.ensures ∙ c.if-is_nothing.true)

pub returns : goal.returns
returns c =
    on_ok_weaker c.put_in.result (λ e.
    value_added c.self.inside.slots c.vacate-former.new.map c.put_in.new.map c.args.self.now c.vacate-former.result c.self.view_is c.args.name.now c.in_ok-from_str.field-0 c.args.as_list c.args.value
    c.in_ok-values.values.items c.in_ok-settled.field-0 c.in_ok-tree.tree c.in_ok-from_str.ensures c.in_ok-values.ensures
    (ap (adds_nothing c.args.as_list) (sym c.as_slice.ensures.value) ∙ sym c.is_nothing.ensures ∙ c.if-is_nothing.false)
    c.vacate-former.ensures.former c.vacate-former.ensures.rest c.in_ok-settled.ensures c.in_ok-tree.ensures e)
    c.put_in.ensures
