use Rattle.std.proofs.Common.{◌≡◌}
use Rattle.ld_compact.specs.Slots.{all_appended}
use Rattle.ld_compact.proofs.making.grown.Given as goal

abbrev pub invariant-loop-value : goal.invariant-loop-value
invariant-loop-value l = all_appended l.held l.value-iterator.rest.items ≡ all_appended l.initial.held l.fn.values.items
