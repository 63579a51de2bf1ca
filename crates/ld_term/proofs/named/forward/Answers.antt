use Rattle.std.proofs.Common.{sym}
use Rattle.ld_rec.specs.Terms.{forward}
use Rattle.ld_term.specs.Waits.{made_of, rest_of, draft_of, own_and_mapped}
use Rattle.ld_term.proofs.Along.{comes_along}
use Rattle.ld_term.proofs.Parts.{forward_none}
use Rattle.ld_term.proofs.named.forward.Goals as goal

pub returns-in-None-clause-gives : goal.returns-in-None-clause-gives
returns-in-None-clause-gives c = λ check define.
    let m = made_of c.args.made.now c.args.defined.now in
    let r = rest_of c.args.rest.now in
    let t = c.args.task in
    comes_along _ _ (forward check define r c.args.local.now t.term t.simple c.args.entries.now t.previous (draft_of t m)).run (own_and_mapped check define r c.args.local.now t c.args.entries.now m).run
    (forward_none check define r c.args.local.now t c.args.entries.now m (sym c.in-None.ensures)) (c.own_and_mapped.ensures.gives check define)
