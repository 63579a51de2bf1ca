use Rattle.std.proofs.Common.{◌≡◌}
use Rattle.std.specs.Prelude.{fold}
use Rattle.ld_ctx.specs.Flat.{flat}
use Rattle.ld_rec.specs.Records.{with_terms}
use Rattle.ld_context.specs.Trials.{with_former}
use Rattle.ld_context.proofs.trial.with_defs.Given as goal

abbrev pub invariant-loop-name : goal.invariant-loop-name
invariant-loop-name l =
    with_terms (flat l.made) (fold with_former (flat l.made).own.terms l.name-iterator.rest.items)
    ≡ with_terms (flat l.fn.ctx) (fold with_former (flat l.fn.ctx).own.terms l.fn.defs.items)
