-- The node map that the code's walk has gathered, by numbers.
use Rattle.std.specs.Prelude.{ℕ, ◌+◌, List, [], length, map, replicate, slice_index_or}
use Rattle.std.specs.Map.{lookup}
use Rattle.std.specs.BTreeMap.{is_at}
use Rattle.std.specs.Ordering.{nat_cmp}
use Rattle.ld_tree.specs.declared.tree.Tree.{Tree}
use Rattle.ld_tree.specs.declared.tree.Tree.TheVariants as t
use Rattle.ld_group.specs.Firsts.{firsts}
use Rattle.ld_group.specs.Groups.{grouped}
use Rattle.ld_nodes.specs.Places.{Name}
use Rattle.ld_nodes.specs.Walks.{Key, Walk}
use Rattle.ld_nodes.specs.declared.node.Node.{Node}

abbrev pub Properties : Type 0
Properties = List (Name × Tree)

-- the values of each row, each once
abbrev pub row_lists : Walk → List (List Tree)
row_lists w = grouped (replicate (length w.rows) []) (firsts w.values)

-- the property of a node that a row is
abbrev pub property_of : List (List Tree) → Key × ℕ → ℕ × (Name × Tree)
property_of lists row = (row.0.0, (row.0.1, t.List (slice_index_or lists row.1 [])))

-- the properties of each node
abbrev pub node_lists : Walk → List Properties
node_lists w = grouped (replicate (length w.nodes) []) (map (property_of (row_lists w)) w.rows)

-- a node, beside the number of its graph
abbrev pub node_of : List Properties → List (ℕ × Name) → Key × ℕ → ℕ × Node
node_of lists indexes node = (node.0.0, record { id = node.0.1; index = lookup (is_at (nat_cmp node.1)) indexes; properties = slice_index_or lists node.1 [] })

-- the nodes of each graph, by the number of the graph, in the order of their identifiers
abbrev pub node_map : Walk → List (List Node)
node_map w = grouped (replicate (length w.graphs + 1) []) (map (node_of (node_lists w) w.indexes) w.nodes)
