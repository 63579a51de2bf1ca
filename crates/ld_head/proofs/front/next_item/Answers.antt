use Rattle.std.proofs.Common.{arith, refl, sym, subst}
use Rattle.ld_head.specs.Dialogues.{OpensAt, Opens, Stops}
use Rattle.ld_head.specs.Reading.{opening_of}
use Rattle.ld_head.proofs.Arriving.{stops_in, too_long_in, whole_in}
use Rattle.ld_head.proofs.front.next_item.Goals as goal

pub returns-in-Goes : goal.returns-in-Goes
returns-in-Goes c =
    subst (λ e. Opens c.args.n c.args.bytes.now (Stops e)) (sym c.ending.ensures.ending)
    (stops_in c.args.bytes.now c.args.n c.in-Goes.place (omega (arith, c.in-Goes.ensures.in_bounds)) (c.in-Goes.ensures.finds _ refl))

pub returns-in-Full : goal.returns-in-Full
returns-in-Full c =
    subst (λ f. OpensAt c.args.n f (opening_of c.bad_item.result)) (sym (too_long_in c.args.bytes.now (c.in-Full.ensures.finds _ refl))) c.bad_item.ensures

pub returns-in-Ended : goal.returns-in-Ended
returns-in-Ended c =
    subst (λ f. OpensAt c.args.n f (opening_of c.item_after.result)) (sym (whole_in c.args.bytes.now c.in-Ended.end _ _ c.split_at.ensures.front c.split_at.ensures.back (c.in-Ended.ensures.finds _ refl))) c.item_after.ensures
