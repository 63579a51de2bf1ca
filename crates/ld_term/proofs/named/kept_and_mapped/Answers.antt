use Rattle.ld_rec.specs.Terms.{mapped}
use Rattle.ld_term.specs.Waits.{made_of, rest_of, draft_of, kept_and_mapped}
use Rattle.ld_term.proofs.Along.{comes_along}
use Rattle.ld_term.proofs.Parts.{kept_then}
use Rattle.ld_term.proofs.named.kept_and_mapped.Goals as goal

pub returns-clause-gives : goal.returns-clause-gives
returns-clause-gives c = λ check define local.
    let m = made_of c.args.made.now c.args.defined.now in
    let r = rest_of c.args.rest.now in
    comes_along _ _ (kept_and_mapped check r c.args.task c.args.entries.now m).run (mapped check r c.args.task.term c.args.entries.now c.args.task.previous (draft_of c.args.task m)).run
    (kept_then check define r local c.args.task c.args.entries.now m) (c.mapped.ensures.gives check define local)
