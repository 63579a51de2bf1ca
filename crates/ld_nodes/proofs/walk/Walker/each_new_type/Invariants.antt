use Rattle.std.proofs.Common.{◌≡◌, take, map}
use Rattle.ld_nodes.specs.Walks.{walk_of, new_type}
use Rattle.ld_nodes.proofs.walk.Walker.each_new_type.Given as goal

abbrev pub invariant-loop-name : goal.invariant-loop-name
invariant-loop-name l = l.made.items ≡ map (new_type (walk_of l.self)) (take l.name-index l.types)
