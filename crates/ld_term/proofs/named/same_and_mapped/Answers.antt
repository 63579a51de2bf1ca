use Rattle.ld_term.specs.Waits.{made_of, rest_of, same_and_mapped, own_and_mapped}
use Rattle.ld_term.proofs.Along.{comes_along}
use Rattle.ld_term.proofs.Parts.{same_then}
use Rattle.ld_term.proofs.named.same_and_mapped.Goals as goal

pub returns-clause-gives : goal.returns-clause-gives
returns-clause-gives c = λ check define.
    let m = made_of c.args.made.now c.args.defined.now in
    let r = rest_of c.args.rest.now in
    comes_along _ _ (same_and_mapped check define r c.args.local.now c.args.task c.args.entries.now m).run (own_and_mapped check define r c.args.local.now c.args.task c.args.entries.now m).run
    (same_then check define r c.args.local.now c.args.task c.args.entries.now m) (c.own_and_mapped.ensures.gives check define)
