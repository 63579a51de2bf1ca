use Rattle.std.proofs.lemmas.Result.{on_ok_weaker}
use Rattle.ld_expand.proofs.Slots.{reverse_added}
use Rattle.ld_expand.proofs.making.Making.add_reverse.Goals as goal

pub returns : goal.returns
returns c =
    on_ok_weaker c.put_in.result (λ e.
    reverse_added c.self.inside.slots c.vacate-former.new.map c.put_in.new.map c.args.self.now c.vacate-former.result c.self.view_is c.args.name c.in_ok-from_str.field-0 c.args.items.items
    c.in_ok-reverse.reverse c.add_items_to.new.map c.in_ok-from_str.ensures c.vacate-former.ensures.former c.vacate-former.ensures.rest c.in_ok-reverse.ensures c.in_ok-add_items_to.ensures e)
    c.put_in.ensures
