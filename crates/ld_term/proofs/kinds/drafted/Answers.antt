use Rattle.ld_rec.specs.Terms.{drafted}
use Rattle.ld_term.specs.Waits.{made_of, rest_of}
use Rattle.ld_term.proofs.Along.{comes_along, comes_then, comes_err, stops_first}
use Rattle.ld_term.proofs.Parts.{drafted_parts, drafted_in_parts}
use Rattle.ld_term.proofs.kinds.drafted.Goals as goal

pub returns-in_err-protected-clause-gives : goal.returns-in_err-protected-clause-gives
returns-in_err-protected-clause-gives c = λ check define.
    let m = made_of c.args.made.now c.args.defined.now in
    let r = rest_of c.args.rest.now in
    comes_along _ _ (drafted check define r c.args.local.now c.args.term c.args.simple c.args.entries.now c.args.previous m).run (drafted_parts check define r c.args.local.now c.args.term c.args.simple c.args.entries.now c.args.previous m).run
    (drafted_in_parts check define r c.args.local.now c.args.term c.args.simple c.args.entries.now c.args.previous m)
    (comes_err _ _ _ _ c.from_residual.ensures.1 (stops_first _ _ _ c.in_err-protected.ensures))

pub returns-clause-gives : goal.returns-clause-gives
returns-clause-gives c = λ check define.
    let m = made_of c.args.made.now c.args.defined.now in
    let r = rest_of c.args.rest.now in
    comes_along _ _ (drafted check define r c.args.local.now c.args.term c.args.simple c.args.entries.now c.args.previous m).run (drafted_parts check define r c.args.local.now c.args.term c.args.simple c.args.entries.now c.args.previous m).run
    (drafted_in_parts check define r c.args.local.now c.args.term c.args.simple c.args.entries.now c.args.previous m)
    (comes_then _ _ _ _ _ c.in_ok-protected.ensures (rw c.new_task-task.ensures at (c.typed_entries.ensures.gives check define)))
