use Rattle.ld_rec.specs.Outcome.{◌>>=◌}
use Rattle.ld_rec.specs.Terms.{first_all}
use Rattle.ld_term.specs.declared.half.Aim.TheVariants.{Means}
use Rattle.ld_term.specs.Waits.{made_of, rest_of, aimed, first_and_typed}
use Rattle.ld_term.proofs.Along.{alike_trans, comes_then, comes_along}
use Rattle.ld_term.proofs.Parts.{first_none, first_some, typed_first}
use Rattle.ld_term.proofs.named.means_itself.Goals as goal

pub returns-in-None-clause-gives : goal.returns-in-None-clause-gives
returns-in-None-clause-gives c = λ check define.
    let m = made_of c.args.made.now c.args.defined.now in
    let r = rest_of c.args.rest.now in
    (comes_then _ _ _ _ _ (first_none define c.args.local.now c.args.task.term m c.in_ok-before.before c.in-None.is (c.in_ok-before.ensures define)) (c.meant.ensures.gives check define c.args.local.now c.args.task.term))

pub returns-in_ok-step-in-Some-clause-gives : goal.returns-in_ok-step-in-Some-clause-gives
returns-in_ok-step-in-Some-clause-gives c = λ check define.
    let m = made_of c.args.made.now c.args.defined.now in
    let r = rest_of c.args.rest.now in
    (first_some check define r c.args.local.now c.args.task c.args.entries.now m (Means c.args.iri) c.args.task.term c.in_ok-before.before c.in-Some.before c.in-Some.is (c.in_ok-before.ensures define) c.in_ok-step-in-Some.step (c.in_ok-step-in-Some.ensures.waits check define r c.args.local.now m))
