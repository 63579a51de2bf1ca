-- Node map generation (JSON-LD 1.1 API, 7.2), step by step: what the walk over an element tells. Graphs, nodes and properties
-- go by their names.
use Rattle.std.specs.Prelude.{ℕ, Bool, true, false, not, List, [], ◌∷◌, Option, None, Some, Ok, codes, bytes_eq, is_some}
use Rattle.ld_codes.specs.Keywords.{is_keyword}
use Rattle.ld_rec.specs.Kinds.{is_value_object, is_list_object}
use Rattle.ld_tree.specs.Trees.{member}
use Rattle.ld_tree.specs.Recursion.{para}
use Rattle.ld_tree.specs.declared.tree.Tree.{Tree}
use Rattle.ld_tree.specs.declared.tree.Tree.TheOpen.{Tree-F}
use Rattle.ld_nodes.specs.Names.{Graph, Name, Slot, Subject}
use Rattle.ld_nodes.specs.Told.{Told, Telling, Spot, InGraph, At, InList, AtReverses, AtReverse, IsNode, HasProperty, then_on, tell, add, link, list_object, renamed, rename, rename_each, types_in, renamed_value, text_in, identifier, identify, add_types, add_index}

-- what an element tells, in a graph and at a spot, beside what was told before
abbrev pub Teller : Type 0
Teller = Tree → Graph → Spot → Told → Telling

-- a child beside its teller
abbrev pub Child : Type 0
Child = Tree × Teller

abbrev pub tell_child : Child → Graph → Spot → Told → Telling
tell_child child = child.1 child.0

-- 1: each item of an array
abbrev pub tell_each : List Child → Graph → Spot → Told → Telling
tell_each [] graph spot s = Ok s
tell_each (child ∷ children) graph spot s = then_on (tell_child child graph spot s) (tell_each children graph spot)

abbrev pub only : Bool → (Told → Telling) → Told → Telling
only false go s = Ok s
only true go s = go s

-- which entries of a map are looked at
pub data Part : Type 0 where
  -- `@list`, in a graph
  Items : Graph → Part
  -- `@reverse`, in the graph of its node, with the identifier of that
  Reverses : Graph → Name → Part
  -- each entry of a map of reverse properties, in a graph, with the subject
  ReverseProperties : Graph → Name → Part
  -- `@graph`, in the graph that it makes
  Within : Graph → Part
  -- `@included`, in the graph of its node
  Included : Graph → Part
  -- the properties of a node
  Properties : Subject → Part

-- 6.12.1 to 6.12.4: a property of a node, by its new name
abbrev pub tell_property : Subject → Name → Child → Told → Telling
tell_property node property child s =
    let slot : Slot = (node, renamed property s) in
    tell_child child node.0 (At slot) (tell (HasProperty slot) (rename property s))

-- 6.9.3: a reverse property, by its new name (own: the Recommendation leaves it)
abbrev pub tell_reverse_property : Graph → Name → Name → Child → Told → Telling
tell_reverse_property graph subject property child s = tell_child child graph (AtReverse subject (renamed property s)) (rename property s)

abbrev pub tell_entry : Part → Name × Child → Told → Telling
tell_entry (Items graph) e = only (bytes_eq e.0 (codes "@list")) (tell_child e.1 graph InList)
tell_entry (Reverses graph id) e = only (bytes_eq e.0 (codes "@reverse")) (tell_child e.1 graph (AtReverses id))
tell_entry (ReverseProperties graph subject) e = tell_reverse_property graph subject e.0 e.1
tell_entry (Within graph) e = only (bytes_eq e.0 (codes "@graph")) (tell_child e.1 graph InGraph)
tell_entry (Included graph) e = only (bytes_eq e.0 (codes "@included")) (tell_child e.1 graph InGraph)
tell_entry (Properties node) e = only (not (is_keyword e.0)) (tell_property node e.0 e.1)

abbrev pub tell_entries : Part → List (Name × Child) → Told → Telling
tell_entries part [] s = Ok s
tell_entries part (e ∷ es) s = then_on (tell_entry part e s) (tell_entries part es)

-- 5: a list object: its items come into a list of their own, and that goes to its spot
abbrev pub tell_list : List (Name × Child) → Graph → Spot → Told → Telling
tell_list es graph spot s =
    then_on (tell_entries (Items graph) es (record s { hand = [] })) (λ r. Ok (add spot (list_object r.hand) (record r { hand = s.hand })))

-- 6.10: `@graph` of the node: a graph by its identifier, whose node the default graph has
abbrev pub tell_graph : Option Tree → List (Name × Child) → Name → Told → Telling
tell_graph None es id s = Ok s
tell_graph (Some inner) es id s = tell_entries (Within (Some id)) es (tell (IsNode (None, id)) s)

-- 6.9 to 6.12
abbrev pub tell_within : List (Name × Child) → Tree → Subject → Told → Telling
tell_within es element node s =
    then_on (tell_entries (Reverses node.0 node.1) es s) (λ s.
    then_on (tell_graph (member (codes "@graph") element) es node.1 s) (λ s.
    then_on (tell_entries (Included node.0) es s) (tell_entries (Properties node) es)))

-- 6.3 to 6.8, and on: the node is there, and is linked with the spot where it stands
abbrev pub tell_content : List (Name × Child) → Tree → Spot → Subject → Told → Telling
tell_content es element spot node s =
    then_on (add_index (text_in (member (codes "@index") element)) node (add_types node (types_in (member (codes "@type") element)) (link spot node (tell (IsNode node) s))))
    (tell_within es element node)

-- 6.1 and 6.2, and on
abbrev pub tell_node : List (Name × Child) → Teller
tell_node es element graph spot s =
    let given = text_in (member (codes "@id") element) in
    tell_content es element spot (graph, identifier given s) (identify given s)

abbrev pub tell_node_or_list : Bool → List (Name × Child) → Teller
tell_node_or_list true es element = tell_list es
tell_node_or_list false es element = tell_node es element

-- 4: a value object goes to its spot
abbrev pub tell_kind : Bool → List (Name × Child) → Teller
tell_kind true es element = λ graph spot s. Ok (add spot (renamed_value element s) s)
tell_kind false es element = tell_node_or_list (is_list_object element) es element

-- 3: blank types are renamed first
abbrev pub tell_object : List (Name × Child) → Teller
tell_object es element graph spot s = tell_kind (is_value_object element) es element graph spot (rename_each (types_in (member (codes "@type") element)) s)

-- a map of reverse properties; or else an object
abbrev pub tell_map : List (Name × Child) → Teller
tell_map es element graph (AtReverses subject) = tell_entries (ReverseProperties graph subject) es
tell_map es element graph InGraph = tell_object es element graph InGraph
tell_map es element graph (At slot) = tell_object es element graph (At slot)
tell_map es element graph InList = tell_object es element graph InList
tell_map es element graph (AtReverse subject property) = tell_object es element graph (AtReverse subject property)

abbrev pub tell_step : Tree-F Child → Teller
tell_step (Tree-F.List children) element = tell_each children
tell_step (Tree-F.Map es) element = tell_map es.0 element
tell_step _ element = λ graph spot s. Ok s

-- a tree beside its teller
unfoldable pub teller_of : Tree → Child
teller_of t = (t, para Teller tell_step t)

-- what an element tells
abbrev pub told_by : Tree → Graph → Spot → Told → Telling
told_by t = tell_child (teller_of t)
