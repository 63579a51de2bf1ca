use Rattle.std.proofs.Common.{◌≡◌, ◌++◌}
use Rattle.ld_compact.specs.Adding.{all_singles}
use Rattle.ld_compact.proofs.making.+singles.Given as goal

abbrev pub invariant-push_joined-loop-item : goal.invariant-push_joined-loop-item
invariant-push_joined-loop-item l = l.out.items ++ all_singles l.item-iterator.rest.items ≡ l.initial.out.items ++ all_singles l.fn.items
