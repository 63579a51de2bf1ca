use Rattle.std.proofs.Common.{◌≡◌, ◌++◌, drop, map}
use Rattle.ld_ctx.specs.Flat.{flat}
use Rattle.ld_context.specs.Trials.{former_entry}
use Rattle.ld_context.proofs.trial.former_defs.Given as goal

abbrev pub invariant-loop-entry : goal.invariant-loop-entry
invariant-loop-entry l = l.defs.items ++ map (former_entry (flat l.ctx)) (drop l.entry-index l.entries.0) ≡ map (former_entry (flat l.ctx)) l.entries.0
