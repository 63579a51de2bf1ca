use Rattle.std.proofs.Common.{sym, ap, Some}
use Rattle.ld_rec.specs.Terms.{with_scoped}
use Rattle.ld_term.specs.Waits.{made_of, rest_of, draft_of, closed_and_put}
use Rattle.ld_term.proofs.Along.{comes_along}
use Rattle.ld_term.proofs.run.settle.Goals as goal

pub returns-clause-gives : goal.returns-clause-gives
returns-clause-gives c =
    let m = made_of c.args.made.now c.args.defined.now in
    let r = rest_of c.args.rest.now in
    let t = c.args.ready.task in
    let e = c.args.ready.entries in
    comes_along _ _ (closed_and_put r t.term e t.previous (with_scoped r c.args.ready.scoped (draft_of t m))).run
    (closed_and_put r t.term e t.previous (record { def = record t.def { scoped = Some c.args.ready.scoped; scoped_base = c.in_ok-base.base }; made = m })).run
    (λ stock. ap (λ b. (closed_and_put r t.term e t.previous (record { def = record t.def { scoped = Some c.args.ready.scoped; scoped_base = b }; made = m })).run stock) (sym c.in_ok-base.ensures))
    c.put_closed.ensures.gives
