use Rattle.std.proofs.Common.{ap}
use Rattle.ld_term.specs.declared.half.Aim.TheVariants.{Means}
use Rattle.ld_term.specs.Waits.{made_of, rest_of, aimed}
use Rattle.ld_term.proofs.Along.{comes_along}
use Rattle.ld_term.proofs.run.aimed.Goals as goal

pub returns-in-Means-clause-gives : goal.returns-in-Means-clause-gives
returns-in-Means-clause-gives c = λ check define.
    let m = made_of c.args.made.now c.args.defined.now in
    let r = rest_of c.args.rest.now in
    let l = c.args.local.now in
    comes_along _ _ (aimed check define r l c.args.task c.args.entries.now c.args.aim c.args.value.now m).run (aimed check define r l c.args.task c.args.entries.now (Means c.in-Means.iri) c.args.value.now m).run
    (λ stock. ap (λ a. (aimed check define r l c.args.task c.args.entries.now a c.args.value.now m).run stock) c.in-Means.is)
    (c.meant.ensures.gives check define l c.args.value.now)
