use Rattle.std.proofs.Common.{None}
use Rattle.std.specs.Prelude.{codes}
use Rattle.ld_tree.specs.Maps.{find}
use Rattle.ld_rec.specs.Terms.{either_way}
use Rattle.ld_term.specs.Waits.{made_of, rest_of, draft_of, type_and_rest}
use Rattle.ld_term.proofs.Along.{comes_along}
use Rattle.ld_term.proofs.Parts.{untyped_then}
use Rattle.ld_term.proofs.kinds.untyped.Goals as goal

pub returns-clause-gives : goal.returns-clause-gives
returns-clause-gives c = λ check define.
    let m = made_of c.args.made.now c.args.defined.now in
    let r = rest_of c.args.rest.now in
    let t = c.args.task in
    comes_along _ _ (type_and_rest check define r c.args.local.now t c.args.entries.now None m).run (either_way check define r c.args.local.now t.term t.simple c.args.entries.now t.previous (find c.args.entries.now (codes "@reverse")) (draft_of t m)).run
    (untyped_then check define r c.args.local.now t c.args.entries.now m) (c.either_way.ensures.gives check define)
