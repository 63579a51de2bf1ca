use Rattle.std.proofs.Common.{[], ◌∷◌, ◌++◌, refl, ap, ◌∙◌, arith}
use Rattle.ld_history.specs.declared.event.Event.TheVariants as event
use Rattle.ld_history.specs.Seen.{seen}
use Rattle.ld_history.specs.Steps.{plain}
use Rattle.ld_history.specs.Plans.{told_out}
use Rattle.ld_history.proofs.Overtold.{dismissed}
use Rattle.ld_history.proofs.Readied.{few, allowed_inside, allowed_next, has_place, has_second, ready-two}
use Rattle.ld_history.proofs.steps.evict.evict.Goals as goal

pub evict-requires-clause-events : goal.evict-requires-clause-events
evict-requires-clause-events c = omega (arith, few _ _ _ c.state.invariant)

pub push-requires : goal.push-requires
push-requires c =
    let gone = plain (event.Evicted c.args.session c.args.iri c.args.version) in
    has_place _ _ _ c.state.invariant gone (allowed_inside _ _ _ c.state.invariant c.args.state.now c.state.view_is gone c.requires.out) refl

pub push-requires-2 : goal.push-requires-2
push-requires-2 c =
    let gone = plain (event.Evicted c.args.session c.args.iri c.args.version) in
    let told = plain (told_out c.args.session c.args.request c.args.version) in
    let one = allowed_inside _ _ _ c.state.invariant c.args.state.now c.state.view_is gone c.requires.out in
    let two = allowed_next _ _ _ c.state.invariant c.args.state.now c.state.view_is gone told c.requires.told in
    has_second _ _ _ c.state.invariant gone told one two refl refl
    c.push.new.self (c.push.ensures.items ∙ ap (λ e. c.state.inside.history.items ++ e ∷ []) c.plain.ensures) c.push.ensures.capacity

pub invariant_of-state-2 : goal.invariant_of-state-2
invariant_of-state-2 c =
    let gone = plain (event.Evicted c.args.session c.args.iri c.args.version) in
    let told = plain (told_out c.args.session c.args.request c.args.version) in
    let one = allowed_inside _ _ _ c.state.invariant c.args.state.now c.state.view_is gone c.requires.out in
    let two = allowed_next _ _ _ c.state.invariant c.args.state.now c.state.view_is gone told c.requires.told in
    ready-two _ _ _ c.state.invariant gone told one two refl refl
    c.push.new.self (c.push.ensures.items ∙ ap (λ e. c.state.inside.history.items ++ e ∷ []) c.plain.ensures) c.push.ensures.capacity
    c.push-2.new.self (seen c.evict.new.self) (c.push-2.ensures.items ∙ ap (λ e. c.push.new.self.items ++ e ∷ []) c.plain-2.ensures) c.push-2.ensures.capacity
    (dismissed (seen c.state.inside.tables) (seen c.evict.new.self) c.args.session c.args.request c.args.version c.args.iri c.in_ok-evict.ensures.ok)
