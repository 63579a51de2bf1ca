use Rattle.std.proofs.Common.{refl, arith}
use Rattle.ld_term.specs.Waits.{made_of, rest_of}
use Rattle.ld_term.proofs.Stack.{popped, popped_less, pushed, pushed_less, pop_refuses, push_refuses}
use Rattle.ld_term.proofs.run.run.Goals as goal

pub loop-step-init : goal.loop-step-init
loop-step-init c = record { same = λ check stock. refl; fits = c.requires; size = omega arith }

pub loop-step-preserved-in-Ok : goal.loop-step-preserved-in-Ok
loop-step-preserved-in-Ok c =
    popped (rest_of c.args.rest.now) c.args.local.now _ c.pop.new.self.items c.in-Some.half (made_of c.loop-step.made c.loop-step.defined) _ c.loop-step.stack.items c.in-Some.ensures.items c.loop-step.step c.in-Done.is c.loop-step.invariant
    c.in-Ok.next (made_of c.go_on.new.made c.go_on.new.defined) c.in-Ok.ensures.gives c.in-Ok.ensures.table c.in-Ok.ensures.size

pub loop-step-smaller-in-Ok : goal.loop-step-smaller-in-Ok
loop-step-smaller-in-Ok c =
    popped_less (rest_of c.args.rest.now) c.args.local.now _ c.pop.new.self.items c.in-Some.half (made_of c.loop-step.made c.loop-step.defined) _ c.loop-step.stack.items c.in-Some.ensures.items c.loop-step.step c.in-Done.is c.loop-step.invariant
    c.in-Ok.next (made_of c.go_on.new.made c.go_on.new.defined) c.in-Ok.ensures.table c.in-Ok.ensures.size

pub returns-in-Err-clause-gives : goal.returns-in-Err-clause-gives
returns-in-Err-clause-gives c = λ check. pop_refuses (rest_of c.args.rest.now) c.args.local.now _ c.pop.new.self.items c.in-Some.half (made_of c.loop-step.made c.loop-step.defined) _ c.loop-step.stack.items c.in-Some.ensures.items c.loop-step.step c.in-Done.is c.loop-step.invariant c.in-Err.e check (c.in-Err.ensures.gives check)

pub loop-step-preserved : goal.loop-step-preserved
loop-step-preserved c =
    pushed (rest_of c.args.rest.now) c.args.local.now _ c.loop-step.stack.items c.in-Need.half (made_of c.loop-step.made c.loop-step.defined) _ c.in-Need.name c.loop-step.step c.in-Need.is c.loop-step.invariant c.push_half.new.stack.items c.in_ok-push_half-in-Need.ensures
    c.in-Ok-define_step.next (made_of c.define_step.new.made c.define_step.new.defined) c.in-Ok-define_step.ensures.gives c.in-Ok-define_step.ensures.size c.in-Ok-define_step.ensures.fits

pub loop-step-smaller : goal.loop-step-smaller
loop-step-smaller c =
    pushed_less (rest_of c.args.rest.now) c.args.local.now _ c.loop-step.stack.items c.in-Need.half (made_of c.loop-step.made c.loop-step.defined) _ c.in-Need.name c.loop-step.step c.in-Need.is c.loop-step.invariant c.push_half.new.stack.items c.in_ok-push_half-in-Need.ensures
    c.in-Ok-define_step.next (made_of c.define_step.new.made c.define_step.new.defined) c.in-Ok-define_step.ensures.size

pub returns-in-Err-define_step-clause-gives : goal.returns-in-Err-define_step-clause-gives
returns-in-Err-define_step-clause-gives c = λ check. push_refuses (rest_of c.args.rest.now) c.args.local.now _ c.loop-step.stack.items c.in-Need.half (made_of c.loop-step.made c.loop-step.defined) _ c.in-Need.name c.loop-step.step c.in-Need.is c.loop-step.invariant c.in-Err-define_step.e check (c.in-Err-define_step.ensures.gives check)
