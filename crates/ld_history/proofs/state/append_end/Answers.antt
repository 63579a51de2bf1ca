use Rattle.std.proofs.Common.{[], ◌∷◌, ◌++◌, ◌∙◌, ap, arith}
use Rattle.ld_history.specs.Seen.{seen}
use Rattle.ld_history.specs.Steps.{plain}
use Rattle.ld_history.proofs.Readied.{allowed_inside, few, relies, has_place, ready-more, ending_promises}
use Rattle.ld_history.proofs.state.append_end.Goals as goal

pub take_end-requires-clause-change : goal.take_end-requires-clause-change
take_end-requires-clause-change c =
    relies _ _ _ c.state.invariant (plain c.args.event) (allowed_inside _ _ _ c.state.invariant c.args.state.now c.state.view_is (plain c.args.event) c.requires.allowed)

pub take_end-requires-clause-events : goal.take_end-requires-clause-events
take_end-requires-clause-events c = omega (arith, few _ _ _ c.state.invariant)

pub push-requires : goal.push-requires
push-requires c =
    let ok = allowed_inside _ _ _ c.state.invariant c.args.state.now c.state.view_is (plain c.args.event) c.requires.allowed in
    has_place _ _ _ c.state.invariant (plain c.args.event) ok (ending_promises c.args.event c.requires.ends)

pub invariant_of-state : goal.invariant_of-state
invariant_of-state c =
    let ok = allowed_inside _ _ _ c.state.invariant c.args.state.now c.state.view_is (plain c.args.event) c.requires.allowed in
    ready-more _ _ _ c.state.invariant (plain c.args.event) ok (ending_promises c.args.event c.requires.ends)
    c.push.new.self (seen c.take_end.new.self) (c.push.ensures.items ∙ ap (λ e. c.state.inside.history.items ++ e ∷ []) c.plain.ensures) c.push.ensures.capacity c.take_end.ensures
