-- A list that is gathered item by item.
use Rattle.std.specs.Prelude.{List, ◌++◌, Ok}
use Rattle.ld_tree.specs.declared.tree.Tree.{Tree}
use Rattle.ld_rec.specs.Compacting.{Outcome, ◌>>=◌}

-- what was gathered, and what is still to come
abbrev pub onto : List Tree → Outcome (List Tree) → Outcome (List Tree)
onto made rest = rest >>= (λ more. Ok (made ++ more))
