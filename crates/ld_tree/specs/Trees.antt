-- What is read of trees.
use Rattle.std.specs.Prelude.{ℕ, ◌+◌, max, List, [], ◌∷◌, Option, None}
use Rattle.std.specs.Map.{lookup, values_of}
use Rattle.std.specs.BTreeMap.{is_at}
use Rattle.ld_tree.specs.Names.{name_cmp}
use Rattle.ld_tree.specs.declared.tree.Tree.{Tree, out-Tree}
use Rattle.ld_tree.specs.declared.tree.Tree.TheOpen.{Tree-F}
use Rattle.ld_tree.specs.declared.tree.Tree.TheFolds.{fold-Tree}

abbrev pub greatest : List ℕ → ℕ
greatest [] = 0
greatest (n ∷ ns) = max n (greatest ns)

abbrev pub depth_step : Tree-F ℕ → ℕ
depth_step (Tree-F.List ns) = greatest ns + 1
depth_step (Tree-F.Map es) = greatest (values_of es.0) + 1
depth_step _ = 0

-- 0 for a scalar, and else one more than the greatest within
abbrev pub depth_of : Tree → ℕ
depth_of = fold-Tree ℕ depth_step

abbrev pub member_at : List ℕ → Tree-F Tree → Option Tree
member_at name (Tree-F.Map es) = lookup (is_at (name_cmp name)) es.0
member_at name _ = None

-- what a map has under the name
abbrev pub member : List ℕ → Tree → Option Tree
member name t = member_at name (out-Tree t)
