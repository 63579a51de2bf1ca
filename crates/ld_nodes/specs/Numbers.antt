-- The flattened form that the code makes, by numbers of graphs.
use Rattle.std.specs.Prelude.{ℕ, ◌+◌, List, [], Option, None, Some, Result, Ok, Err, filter_map, slice_index_or}
use Rattle.std.specs.Map.{lookup}
use Rattle.std.specs.BTreeMap.{is_at}
use Rattle.ld_codes.specs.declared.code.Code.{Code}
use Rattle.ld_tree.specs.Names.{name_cmp}
use Rattle.ld_tree.specs.declared.tree.Tree.{Tree}
use Rattle.ld_tree.specs.declared.tree.Tree.TheVariants as t
use Rattle.ld_nodes.specs.Tables.{Table}
use Rattle.ld_nodes.specs.Places.{Name, Nowhere}
use Rattle.ld_nodes.specs.Walks.{Answer, start}
use Rattle.ld_nodes.specs.Visits.{visited}
use Rattle.ld_nodes.specs.Maps.{node_map}
use Rattle.ld_nodes.specs.Flat.{graph_of, node_object}
use Rattle.ld_nodes.specs.declared.node.Node.{Node}

-- the graph of a number; that of the default graph is 0
abbrev pub graph_at : List (List Node) → Option ℕ → Option (List Tree)
graph_at graphs None = None
graph_at graphs (Some number) = graph_of (slice_index_or graphs (number + 1) [])

-- a node of the default graph
abbrev pub flat_object : List (List Node) → Table Name → Node → Option Tree
flat_object graphs names node = node_object (graph_at graphs (lookup (is_at (name_cmp node.id)) names)) node

abbrev pub flat_objects : List (List Node) → Table Name → List Tree
flat_objects graphs names = filter_map (flat_object graphs names) (slice_index_or graphs 0 [])

abbrev pub flattened_by_walk : Answer → Result Tree Code
flattened_by_walk (Ok w) = Ok (t.List (flat_objects (node_map w) w.graphs))
flattened_by_walk (Err e) = Err e

-- the flattened form, by numbers
abbrev pub numbers_flattened : Tree → Result Tree Code
numbers_flattened expanded = flattened_by_walk (visited expanded 0 Nowhere start)
