use Rattle.std.proofs.lemmas.Result.{on_ok_weaker}
use Rattle.ld_expand.proofs.Slots.{types_added}
use Rattle.ld_expand.proofs.making.Making.add_types.Goals as goal

pub returns : goal.returns
returns c =
    on_ok_weaker c.put_in.result (λ e.
    types_added c.self.inside.slots c.vacate-former.new.map c.put_in.new.map c.args.self.now c.vacate-former.result c.self.view_is c.in_ok-from_str.field-0 c.args.types
    c.in_ok-settled.field-0 c.in_ok-joined.joined c.in_ok-from_str.ensures c.vacate-former.ensures.former c.vacate-former.ensures.rest c.in_ok-settled.ensures c.in_ok-joined.ensures e)
    c.put_in.ensures
