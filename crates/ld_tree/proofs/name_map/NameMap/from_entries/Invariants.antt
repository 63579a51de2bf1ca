use Rattle.std.proofs.Common.{◌≡◌, ◌++◌}
use Rattle.ld_tree.proofs.name_map.NameMap.from_entries.Given as goal

abbrev pub invariant-loop-name : goal.invariant-loop-name
invariant-loop-name g l = l.map.0 ++ l.name-iterator.rest.items ≡ l.fn.entries.0
