use Rattle.std.proofs.Common.{[], ◌∷◌, ◌++◌, refl, ap, ◌∙◌, None, arith}
use Rattle.ld_history.specs.Seen.{seen}
use Rattle.ld_history.specs.After.{after}
use Rattle.ld_history.specs.Steps.{plain}
use Rattle.ld_history.specs.Plans.{goes_out, comes_in}
use Rattle.ld_history.proofs.Allowed.{room}
use Rattle.ld_history.proofs.KeptStep.{bytes_within}
use Rattle.ld_history.proofs.Readied.{few, allowed_inside, allowed_next, has_place, has_second, ready-two}
use Rattle.ld_history.proofs.steps.lack.replace.Goals as goal

pub replace-requires-clause-fits : goal.replace-requires-clause-fits
replace-requires-clause-fits c =
    let two = allowed_next _ _ _ c.state.invariant c.args.state.now c.state.view_is (plain (goes_out c.args.r)) (plain (comes_in c.args.r)) c.requires.led in
    (room c.state.inside.limits (after (seen c.state.inside.tables) (plain (goes_out c.args.r))) (comes_in c.args.r) None two c.state.invariant.kept.within.bytes (bytes_within _ _ _ c.state.invariant.kept)).1

pub replace-requires-clause-events : goal.replace-requires-clause-events
replace-requires-clause-events c = omega (arith, few _ _ _ c.state.invariant)

pub push-requires : goal.push-requires
push-requires c =
    let gone = plain (goes_out c.args.r) in
    has_place _ _ _ c.state.invariant gone (allowed_inside _ _ _ c.state.invariant c.args.state.now c.state.view_is gone c.requires.out) refl

pub push-requires-2 : goal.push-requires-2
push-requires-2 c =
    let gone = plain (goes_out c.args.r) in
    let led = plain (comes_in c.args.r) in
    let one = allowed_inside _ _ _ c.state.invariant c.args.state.now c.state.view_is gone c.requires.out in
    let two = allowed_next _ _ _ c.state.invariant c.args.state.now c.state.view_is gone led c.requires.led in
    has_second _ _ _ c.state.invariant gone led one two refl refl
    c.push.new.self (c.push.ensures.items ∙ ap (λ e. c.state.inside.history.items ++ e ∷ []) c.plain.ensures) c.push.ensures.capacity

pub invariant_of-state-2 : goal.invariant_of-state-2
invariant_of-state-2 c =
    let gone = plain (goes_out c.args.r) in
    let led = plain (comes_in c.args.r) in
    let one = allowed_inside _ _ _ c.state.invariant c.args.state.now c.state.view_is gone c.requires.out in
    let two = allowed_next _ _ _ c.state.invariant c.args.state.now c.state.view_is gone led c.requires.led in
    ready-two _ _ _ c.state.invariant gone led one two refl refl
    c.push.new.self (c.push.ensures.items ∙ ap (λ e. c.state.inside.history.items ++ e ∷ []) c.plain.ensures) c.push.ensures.capacity
    c.push-2.new.self (seen c.replace.new.self) (c.push-2.ensures.items ∙ ap (λ e. c.push.new.self.items ++ e ∷ []) c.plain-2.ensures) c.push-2.ensures.capacity c.in_ok-replace.ensures.ok
