use Rattle.std.proofs.Common.{◌≡◌, ◌++◌}
use Rattle.ld_tree.specs.Texts.{named}
use Rattle.ld_ctx.proofs.terms.copy_open.Given as goal

abbrev pub invariant-loop-term : goal.invariant-loop-term
invariant-loop-term l =
    goal.iterator-loop-term.can_next l.term-iterator × goal.iterator-loop-term.is_finite l.term-iterator
    × (l.copied.items ++ named l.term-iterator ≡ l.fn.map.0)
