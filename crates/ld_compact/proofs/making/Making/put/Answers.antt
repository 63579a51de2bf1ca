use Rattle.std.proofs.lemmas.Result.{on_ok_weaker}
use Rattle.ld_compact.proofs.Slots.{one_put}
use Rattle.ld_compact.proofs.making.Making.put.Goals as goal

pub returns : goal.returns
returns c =
    on_ok_weaker c.put_in.result (λ e. one_put c.self.inside.slots c.put_in.new.map c.args.self.now c.args.name.now c.in_ok-name.name c.args.value c.in_ok-name.ensures e c.self.view_is) c.put_in.ensures
