-- Flattening (JSON-LD 1.1 API, 7.1): a node map as a list of node objects.
use Rattle.std.specs.Prelude.{◌≡◌, ℕ, ◌==◌, Bool, ◌&&◌, cond, List, [], ◌∷◌, length, Option, None, Some, is_none, Result, Ok, Err, codes, filter_map}
use Rattle.ld_codes.specs.declared.code.Code.{Code}
use Rattle.ld_rec.specs.declared.stop.Stop.{Stop}
use Rattle.ld_rec.specs.declared.stop.Stop.TheVariants as stop
use Rattle.ld_tree.specs.Maps.{empty, put}
use Rattle.ld_tree.specs.Names.{Sorted}
use Rattle.ld_tree.specs.declared.tree.Tree.{Tree}
use Rattle.ld_tree.specs.declared.tree.Tree.TheVariants as t
use Rattle.ld_nodes.specs.Names.{Graph, Name}
use Rattle.ld_nodes.specs.NodeMap.{node_map}
use Rattle.ld_nodes.specs.declared.node.Node.{Node}

abbrev pub put_each : Sorted Tree → List (Name × Tree) → Sorted Tree
put_each es [] = es
put_each es (property ∷ properties) = put_each (put es property.0 property.1) properties

abbrev pub put_graph : Sorted Tree → Option (List Tree) → Sorted Tree
put_graph es None = es
put_graph es (Some objects) = put es (codes "@graph") (t.List objects)

abbrev pub put_index : Sorted Tree → Option Name → Sorted Tree
put_index es None = es
put_index es (Some index) = put es (codes "@index") (t.Text index)

-- a node with the graph that it names
abbrev pub object_entries : Option (List Tree) → Node → Sorted Tree
object_entries graph node = put_each (put_index (put (put_graph empty graph) (codes "@id") (t.Text node.id)) node.index) node.properties

-- only an identifier
abbrev pub is_bare : Option (List Tree) → Node → Bool
is_bare graph node = is_none graph && is_none node.index && length node.properties == 0

-- the object of a node; a bare node has none
abbrev pub node_object : Option (List Tree) → Node → Option Tree
node_object graph node = cond (is_bare graph node) None (Some (t.Map (object_entries graph node)))

abbrev pub objects : List Node → List Tree
objects nodes = filter_map (node_object None) nodes

-- the objects of a graph that has nodes
abbrev pub graph_of : List Node → Option (List Tree)
graph_of nodes = cond (length nodes == 0) None (Some (objects nodes))

-- a node of the default graph, with the graph of its name
abbrev pub flat_node : (Graph → List Node) → Node → Option Tree
flat_node nodes node = node_object (graph_of (nodes (Some node.id))) node

abbrev pub flat_nodes : (Graph → List Node) → List Tree
flat_nodes nodes = filter_map (flat_node nodes) (nodes None)

abbrev pub flattened_by : Result (Graph → List Node) Code → Result Tree Code
flattened_by (Ok nodes) = Ok (t.List (flat_nodes nodes))
flattened_by (Err e) = Err e

-- the flattened form of an expanded document, or the code
abbrev pub flattened : Tree → Result Tree Code
flattened expanded = flattened_by (node_map expanded)

-- the answer is the definition's, or memory was wanting
abbrev pub Flattens : Result Tree Stop → Result Tree Code → Type 0
Flattens (Ok tree) answer = answer ≡ Ok tree
Flattens (Err (stop.Code code)) answer = answer ≡ Err code
Flattens (Err stop.NoMemory) answer = Unit {0}
Flattens (Err (stop.Own own)) answer = ⊥
Flattens (Err (stop.Missing iri)) answer = ⊥
