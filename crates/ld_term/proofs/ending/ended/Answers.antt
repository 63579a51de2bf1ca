use Rattle.ld_rec.specs.Outcome.{◌>>=◌}
use Rattle.ld_rec.specs.Terms.{ended, without_index}
use Rattle.ld_term.specs.Waits.{made_of, rest_of, draft_of, from_scoped}
use Rattle.ld_term.proofs.Along.{comes_then, comes_along, comes_err, stops_first}
use Rattle.ld_term.proofs.Cases.{ended_in_parts}
use Rattle.ld_term.proofs.ending.ended.Goals as goal

pub returns-in_err-def-clause-gives : goal.returns-in_err-def-clause-gives
returns-in_err-def-clause-gives c = λ check define local.
    let m = made_of c.args.made.now c.args.defined.now in
    let r = rest_of c.args.rest.now in
    let t = c.args.task in
    comes_along _ _ (ended check r t.term c.args.entries.now t.previous (draft_of t m)).run (without_index c.args.entries.now (draft_of t m) >>= from_scoped check r t.term c.args.entries.now t.previous).run
    (ended_in_parts check r t.term c.args.entries.now t.previous (draft_of t m))
    (comes_err _ _ _ _ c.from_residual.ensures.1 (stops_first _ _ _ (c.in_err-def.ensures m)))

pub returns-clause-gives : goal.returns-clause-gives
returns-clause-gives c = λ check define local.
    let m = made_of c.args.made.now c.args.defined.now in
    let r = rest_of c.args.rest.now in
    let t = c.args.task in
    comes_along _ _ (ended check r t.term c.args.entries.now t.previous (draft_of t m)).run (without_index c.args.entries.now (draft_of t m) >>= from_scoped check r t.term c.args.entries.now t.previous).run
    (ended_in_parts check r t.term c.args.entries.now t.previous (draft_of t m))
    (comes_then _ _ _ _ _ (c.in_ok-def.ensures m) (c.scoped_or_put.ensures.gives check define local))
