-- The node map that facts make (JSON-LD 1.1 API, 7.2).
use Rattle.std.specs.Prelude.{ℕ, Bool, false, not, ◌&&◌, ◌||◌, cond, List, [], ◌∷◌, ◌++◌, map, Result, Ok, Err, Option, None}
use Rattle.std.specs.Ordering.{is_eq, match_ordering}
use Rattle.ld_codes.specs.declared.code.Code.{Code}
use Rattle.ld_rec.specs.Kinds.{is_list_object}
use Rattle.ld_tree.specs.Names.{name_cmp}
use Rattle.ld_tree.specs.declared.tree.Tree.{Tree}
use Rattle.ld_tree.specs.declared.tree.Tree.TheVariants as t
use Rattle.ld_tree.specs.contracts.tree.TreeOrd.TheImpl as order
use Rattle.ld_nodes.specs.Names.{Graph, Name, Slot, Subject, is_graph, is_slot, is_subject}
use Rattle.ld_nodes.specs.Told.{Fact, IsNode, HasProperty, HasValue, HasIndex, InGraph, Telling, index_of, nothing}
use Rattle.ld_nodes.specs.Tellings.{told_by}
use Rattle.ld_nodes.specs.declared.node.Node.{Node}

-- names in code point order, with one more; each stands once
abbrev pub with_name : Name → List Name → List Name
with_name name [] = name ∷ []
with_name name (other ∷ names) = match_ordering (name_cmp name other) (name ∷ other ∷ names) (other ∷ names) (other ∷ with_name name names)

-- the identifiers of a graph's nodes, in order
abbrev pub ids_in : Graph → List Fact → List Name
ids_in graph [] = []
ids_in graph (IsNode node ∷ facts) = cond (is_graph node.0 graph) (with_name node.1 (ids_in graph facts)) (ids_in graph facts)
ids_in graph (fact ∷ facts) = ids_in graph facts

-- the properties of a node, in order
abbrev pub properties_of : Subject → List Fact → List Name
properties_of node [] = []
properties_of node (HasProperty slot ∷ facts) = cond (is_subject slot.0 node) (with_name slot.1 (properties_of node facts)) (properties_of node facts)
properties_of node (fact ∷ facts) = properties_of node facts

-- the same JSON value
abbrev pub is_same : Tree → Tree → Bool
is_same a b = is_eq (order.ghosts.cmp a b)

-- whether the value was told of the property
abbrev pub is_told : Slot → Tree → List Fact → Bool
is_told slot value [] = false
is_told slot value (HasValue other known ∷ facts) = is_told slot value facts || (is_slot other slot && is_same known value)
is_told slot value (fact ∷ facts) = is_told slot value facts

-- whether a value is added to those that were told before: it isn't there, or it is a list object
abbrev pub is_added : Slot → Tree → List Fact → Bool
is_added slot value facts = not (is_told slot value facts) || is_list_object value

-- the values of a property, in the order that they were told
abbrev pub values_of : Slot → List Fact → List Tree
values_of slot [] = []
values_of slot (HasValue other value ∷ facts) = cond (is_slot other slot && is_added other value facts) (values_of slot facts ++ value ∷ []) (values_of slot facts)
values_of slot (fact ∷ facts) = values_of slot facts

abbrev pub property_of : List Fact → Subject → Name → Name × Tree
property_of facts node property = (property, t.List (values_of (node, property) facts))

abbrev pub node_of : List Fact → Graph → Name → Node
node_of facts graph id =
    let node : Subject = (graph, id) in
    record { id = id; index = index_of node facts; properties = map (property_of facts node) (properties_of node facts) }

-- the nodes of a graph, in the order of their identifiers, with all that is told of them
abbrev pub nodes_of : List Fact → Graph → List Node
nodes_of facts graph = map (node_of facts graph) (ids_in graph facts)

-- what an expanded document tells of each graph's nodes, or the code
abbrev pub node_map_by : Telling → Result (Graph → List Node) Code
node_map_by (Ok s) = Ok (nodes_of s.facts)
node_map_by (Err e) = Err e

abbrev pub node_map : Tree → Result (Graph → List Node) Code
node_map expanded = node_map_by (told_by expanded None InGraph nothing)
