use Rattle.std.proofs.Common.{◌+◌, ◌*◌, length}
use Rattle.ld_term.specs.Waits.{made_of, rest_of, from_stack}
use Rattle.ld_term.specs.Sizes.{names_left, weight, weights}
use Rattle.ld_term.proofs.Stack.{Run}
use Rattle.ld_term.proofs.run.run.Given as goal

abbrev pub invariant-loop-step : goal.invariant-loop-step
invariant-loop-step l =
    Run (rest_of l.rest) l.local (λ check. from_stack check (rest_of l.rest) l.local (length l.local.0) l.initial.stack.items l.initial.step (made_of l.initial.made l.initial.defined))
    l.stack.items l.step (made_of l.made l.defined) (13 * names_left l.local.0 l.initial.defined + weights l.initial.stack.items + weight l.initial.step)

abbrev pub decreases-loop-step : goal.decreases-loop-step
decreases-loop-step l = 13 * names_left l.local.0 l.defined + weights l.stack.items + weight l.step
