-- What the code's walk over an element does: the steps of Tellings, by numbers.
use Rattle.std.specs.Prelude.{ℕ, Bool, true, false, not, List, [], ◌∷◌, Option, None, Some, Ok, codes, bytes_eq, is_some}
use Rattle.ld_codes.specs.Keywords.{is_keyword}
use Rattle.ld_rec.specs.Kinds.{is_value_object, is_list_object}
use Rattle.ld_tree.specs.Trees.{member}
use Rattle.ld_tree.specs.Recursion.{para}
use Rattle.ld_tree.specs.declared.tree.Tree.{Tree}
use Rattle.ld_tree.specs.declared.tree.Tree.TheOpen.{Tree-F}
use Rattle.ld_nodes.specs.Places.{Name, Place, Nowhere, Row, Hand, ReverseMap, Reverse, Pass, ListItems, Reversed, ReverseProperties, Graph, Included, Properties}
use Rattle.ld_nodes.specs.Walks.{Walk, Answer, then_go, put, link, list_object, new_name, rename, rename_each, types_in, new_value, text_in, identifier, identify, node_number, meet_node, graph_number, meet_graph, row_number, meet_row, add_types, add_index}

-- what an element does to the walk, in the graph of a number and at a place
abbrev pub Visit : Type 0
Visit = Tree → ℕ → Place → Walk → Answer

-- a child beside its visit
abbrev pub Child : Type 0
Child = Tree × Visit

abbrev pub visit_child : Child → ℕ → Place → Walk → Answer
visit_child child = child.1 child.0

-- 1: each item of an array
abbrev pub visit_each : List Child → ℕ → Place → Walk → Answer
visit_each [] graph place w = Ok w
visit_each (child ∷ children) graph place w = then_go (visit_child child graph place w) (visit_each children graph place)

abbrev pub only : Bool → (Walk → Answer) → Walk → Answer
only false go w = Ok w
only true go w = go w

-- 6.12.1 to 6.12.4: a property of a node, by its new name
abbrev pub visit_property : ℕ → ℕ → Name → Child → Walk → Answer
visit_property graph node property child w =
    let name = new_name property w in
    let renamed = rename property w in
    visit_child child graph (Row (row_number node name renamed)) (meet_row node name renamed)

-- 6.9.3: a reverse property, by its new name (own: the Recommendation leaves it)
abbrev pub visit_reverse_property : ℕ → Name → Name → Child → Walk → Answer
visit_reverse_property graph subject property child w = visit_child child graph (Reverse subject (new_name property w)) (rename property w)

abbrev pub visit_entry : Pass → Name × Child → Walk → Answer
visit_entry (ListItems graph) e = only (bytes_eq e.0 (codes "@list")) (visit_child e.1 graph Hand)
visit_entry (Reversed graph id) e = only (bytes_eq e.0 (codes "@reverse")) (visit_child e.1 graph (ReverseMap id))
visit_entry (ReverseProperties graph subject) e = visit_reverse_property graph subject e.0 e.1
visit_entry (Graph graph) e = only (bytes_eq e.0 (codes "@graph")) (visit_child e.1 graph Nowhere)
visit_entry (Included graph) e = only (bytes_eq e.0 (codes "@included")) (visit_child e.1 graph Nowhere)
visit_entry (Properties graph node) e = only (not (is_keyword e.0)) (visit_property graph node e.0 e.1)

abbrev pub visit_entries : Pass → List (Name × Child) → Walk → Answer
visit_entries pass [] w = Ok w
visit_entries pass (e ∷ es) w = then_go (visit_entry pass e w) (visit_entries pass es)

-- 5: a list object: its items come into a list of their own, and that goes to its place
abbrev pub visit_list : List (Name × Child) → ℕ → Place → Walk → Answer
visit_list es graph place w =
    then_go (visit_entries (ListItems graph) es (record w { hand = [] })) (λ v. Ok (put place (list_object v.hand) (record v { hand = w.hand })))

-- 6.10: `@graph` of the node: a graph by its identifier, whose node the default graph has
abbrev pub visit_graph : Option Tree → List (Name × Child) → Name → Walk → Answer
visit_graph None es id w = Ok w
visit_graph (Some inner) es id w = visit_entries (Graph (graph_number id w)) es (meet_node 0 id (meet_graph id w))

-- 6.9 to 6.12
abbrev pub visit_within : List (Name × Child) → Tree → ℕ → Name → ℕ → Walk → Answer
visit_within es element graph id node w =
    then_go (visit_entries (Reversed graph id) es w) (λ w.
    then_go (visit_graph (member (codes "@graph") element) es id w) (λ w.
    then_go (visit_entries (Included graph) es w) (visit_entries (Properties graph node) es)))

-- 6.7 and 6.8, and on
abbrev pub visit_content : List (Name × Child) → Tree → ℕ → Name → ℕ → Walk → Answer
visit_content es element graph id node w =
    then_go (add_index (text_in (member (codes "@index") element)) node (add_types node (types_in (member (codes "@type") element)) w))
    (visit_within es element graph id node)

-- 6.3 to 6.6, and on: the node is met, and linked with the place where it stands
abbrev pub visit_met : List (Name × Child) → Tree → ℕ → Place → Name → Walk → Answer
visit_met es element graph place id w =
    visit_content es element graph id (node_number graph id w) (link place id (node_number graph id w) (meet_node graph id w))

-- 6.1 and 6.2, and on
abbrev pub visit_node : List (Name × Child) → Visit
visit_node es element graph place w =
    let given = text_in (member (codes "@id") element) in
    visit_met es element graph place (identifier given w) (identify given w)

abbrev pub node_or_list : Bool → List (Name × Child) → Visit
node_or_list true es element = visit_list es
node_or_list false es element = visit_node es element

-- 4: a value object goes to its place
abbrev pub visit_kind : Bool → List (Name × Child) → Visit
visit_kind true es element = λ graph place w. Ok (put place (new_value element w) w)
visit_kind false es element = node_or_list (is_list_object element) es element

-- 3: blank types are renamed first
abbrev pub visit_object : List (Name × Child) → Visit
visit_object es element graph place w = visit_kind (is_value_object element) es element graph place (rename_each (types_in (member (codes "@type") element)) w)

-- a map of reverse properties; or else an object
abbrev pub visit_at : Place → List (Name × Child) → Tree → ℕ → Walk → Answer
visit_at Nowhere es element graph = visit_object es element graph Nowhere
visit_at (Row row) es element graph = visit_object es element graph (Row row)
visit_at Hand es element graph = visit_object es element graph Hand
visit_at (ReverseMap subject) es element graph = visit_entries (ReverseProperties graph subject) es
visit_at (Reverse subject property) es element graph = visit_object es element graph (Reverse subject property)

abbrev pub visit_map : List (Name × Child) → Visit
visit_map es element graph place = visit_at place es element graph

abbrev pub visit_step : Tree-F Child → Visit
visit_step (Tree-F.List children) element = visit_each children
visit_step (Tree-F.Map es) element = visit_map es.0 element
visit_step _ element = λ graph place w. Ok w

-- a tree beside its visit
unfoldable pub child_of : Tree → Child
child_of t = (t, para Visit visit_step t)

-- what an element does to the walk
abbrev pub visited : Tree → ℕ → Place → Walk → Answer
visited t = visit_child (child_of t)
