use Rattle.std.proofs.Common.{◌≡◌, take}
use Rattle.ld_ctx.proofs.terms.copy_settled.Given as goal

abbrev pub invariant-loop-term : goal.invariant-loop-term
invariant-loop-term l = l.copied.items ≡ take l.term-index l.term-items
