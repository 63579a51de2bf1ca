use Rattle.std.proofs.Common.{◌≡◌, drop}
use Rattle.ld_nodes.specs.Walks.{walk_of, rename_each}
use Rattle.ld_nodes.proofs.walk.Walker.rename_each.Given as goal

abbrev pub invariant-loop-name : goal.invariant-loop-name
invariant-loop-name l = rename_each (drop l.name-index l.types) (walk_of l.self) ≡ rename_each l.types (walk_of l.initial.self)
