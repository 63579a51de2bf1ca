-- The walk by numbers tells what the one by names tells.
use Rattle.std.proofs.Common.{◌≡◌, ◌∙◌, refl, sym, ap, ap₂, subst, ℕ, Bool, true, false, List, [], ◌∷◌, map, Option, None, Some}
use Rattle.std.specs.Prelude.{Ok, Err, codes, not}
use Rattle.std.specs.List.{AllByRecursion}
use Rattle.std.specs.Str.{bytes_eq}
use Rattle.ld_codes.specs.Keywords.{is_keyword}
use Rattle.ld_rec.specs.Kinds.{is_value_object, is_list_object}
use Rattle.ld_tree.specs.Trees.{member}
use Rattle.ld_tree.specs.formers.entries.Entries.{on_value}
use Rattle.ld_tree.specs.declared.tree.Tree.{Tree}
use Rattle.ld_tree.specs.declared.tree.Tree.TheOpen.{Tree-F}
use Rattle.ld_tree.specs.declared.tree.Tree.TheVariants as t
use Rattle.ld_tree.specs.declared.tree.Tree.TheFolds.{ind-Tree, map-Tree}
use Rattle.ld_tree.specs.declared.tree.Tree.TheViews.{roll-Tree}
use Rattle.ld_tree.proofs.Recursion.{para-roll}
use Rattle.ld_nodes.specs.Flat.{flat_nodes, flattened, flattened_by}
use Rattle.ld_nodes.specs.Maps as maps
use Rattle.ld_nodes.specs.Names.{Graph, Name, Slot, Subject}
use Rattle.ld_nodes.specs.NodeMap.{node_map_by, nodes_of}
use Rattle.ld_nodes.specs.Numbers.{flattened_by_walk, numbers_flattened}
use Rattle.ld_nodes.specs.Places.{Place, Nowhere, Row, Hand, ReverseMap, Reverse, Pass, ListItems, Reversed, ReverseProperties, Graph as GraphPass, Included, Properties}
use Rattle.ld_nodes.specs.Tellings.{Part, Teller, tell_child, tell_content, tell_each, tell_entries, tell_entry, tell_graph, tell_kind, tell_list, tell_map, tell_node, tell_node_or_list, tell_object, tell_property, tell_reverse_property, tell_step, tell_within, teller_of, told_by}
use Rattle.ld_nodes.specs.Tellings as parts
use Rattle.ld_nodes.specs.Told.{HasProperty, IsNode, Spot, InGraph, At, InList, AtReverses, AtReverse, Telling, Told, add, list_object, nothing, renamed, tell, text_in, then_on, types_in}
use Rattle.ld_nodes.specs.Told as names
use Rattle.ld_nodes.specs.Visits.{Visit, child_of, node_or_list, visit_child, visit_content, visit_each, visit_entries, visit_entry, visit_graph, visit_kind, visit_list, visit_map, visit_met, visit_node, visit_object, visit_property, visit_reverse_property, visit_step, visit_within, visited}
use Rattle.ld_nodes.specs.Visits as visits
use Rattle.ld_nodes.specs.Walks.{Answer, Walk, graph_number, meet_graph, meet_node, meet_row, node_number, put, row_number, start, then_go}
use Rattle.ld_nodes.specs.Walks as numbers
use Rattle.std.proofs.lemmas.Cmp.{nat_list_cmp_total}
use Rattle.ld_nodes.proofs.Assembly.{flat_alike}
use Rattle.ld_nodes.proofs.Standing.{Agrees, Extends, KnowsGraph, KnowsNode, KnowsRow, extends_then, graph_still, no_fact, node_still}
use Rattle.ld_nodes.proofs.Steps.{Follows, Goes, IsSpot, add_index_goes, add_types_follows, at_reverse, at_reverses, at_row, follows_then, goes_from, goes_then, identifier_alike, identify_follows, in_graph, in_list, link_follows, met_graph, met_node, met_row, new_value_alike, put_follows, rename_each_follows, rename_follows, renamed_alike, spot_still, stays_here, with_hand}
use Rattle.ld_nodes.proofs.Telling.{tells_none}

-- a tree, of which both tell the same
abbrev Good : Tree → Type 0
Good t =
    (graph : ℕ) (name : Graph) (place : Place) (spot : Spot) (w : Walk) (s : Told) → Agrees w s → KnowsGraph w.graphs name graph → IsSpot w place spot
    → Goes w (visited t graph place w) (told_by t name spot s)

abbrev Entry : Type 0
Entry = Name × Tree

abbrev AllGood : List Tree → Type 0
AllGood ts = AllByRecursion Good ts

abbrev AllGoodEntries : List Entry → Type 0
AllGoodEntries es = AllByRecursion (λ (e : Entry). Good e.1) es

each_goes : (ts : List Tree) → AllGood ts → (graph : ℕ) (name : Graph) (place : Place) (spot : Spot) (w : Walk) (s : Told) → Agrees w s → KnowsGraph w.graphs name graph → IsSpot w place spot
    → Goes w (visit_each (map child_of ts) graph place w) (tell_each (map teller_of ts) name spot s)
each_goes [] good graph name place spot w s agrees known at = stays_here agrees
each_goes (t ∷ ts) good graph name place spot w s agrees known at =
    goes_then (visited t graph place w) (told_by t name spot s) (visit_each (map child_of ts) graph place) (tell_each (map teller_of ts) name spot)
    (good.0 graph name place spot w s agrees known at)
    (λ v r agreed more. each_goes ts good.1 graph name place spot v r agreed (graph_still more name graph known) (spot_still more place spot at))

-- the pass and the part are one
data IsPart (w : Walk) : Pass → Part → Type 0 where
  of_items : (name : Graph) (graph : ℕ) → KnowsGraph w.graphs name graph → IsPart w (ListItems graph) (parts.Items name)
  of_reverses : (name : Graph) (graph : ℕ) (id : Name) → KnowsGraph w.graphs name graph → IsPart w (Reversed graph id) (parts.Reverses name id)
  of_reverse_properties : (name : Graph) (graph : ℕ) (id : Name) → KnowsGraph w.graphs name graph → IsPart w (ReverseProperties graph id) (parts.ReverseProperties name id)
  of_graph : (name : Graph) (graph : ℕ) → KnowsGraph w.graphs name graph → IsPart w (GraphPass graph) (parts.Within name)
  of_included : (name : Graph) (graph : ℕ) → KnowsGraph w.graphs name graph → IsPart w (Included graph) (parts.Included name)
  of_properties : (node : Subject) (graph n : ℕ) → KnowsGraph w.graphs node.0 graph → KnowsNode w node n → IsPart w (Properties graph n) (parts.Properties node)

part_still : {w v : Walk} → Extends w v → (pass : Pass) (part : Part) → IsPart w pass part → IsPart v pass part
part_still more pass part (of_items name graph known) = of_items name graph (graph_still more name graph known)
part_still more pass part (of_reverses name graph id known) = of_reverses name graph id (graph_still more name graph known)
part_still more pass part (of_reverse_properties name graph id known) = of_reverse_properties name graph id (graph_still more name graph known)
part_still more pass part (of_graph name graph known) = of_graph name graph (graph_still more name graph known)
part_still more pass part (of_included name graph known) = of_included name graph (graph_still more name graph known)
part_still more pass part (of_properties node graph n known there) = of_properties node graph n (graph_still more node.0 graph known) (node_still more node n there)

only_goes : (w : Walk) (s : Told) → Agrees w s → (b : Bool) (f : Walk → Answer) (g : Told → Telling) → Goes w (f w) (g s) → Goes w (visits.only b f w) (parts.only b g s)
only_goes w s agrees true f g h = h
only_goes w s agrees false f g h = stays_here agrees

module _ (w : Walk) (s : Told) (agrees : Agrees w s) where
  property_goes : (node : Subject) (graph n : ℕ) → KnowsGraph w.graphs node.0 graph → KnowsNode w node n → (property : Name) (t : Tree) → Good t
      → Goes w (visit_property graph n property (child_of t) w) (tell_property node property (teller_of t) s)
  property_goes node graph n known there property t good =
      let name = renamed property s in
      let first = rename_follows agrees property in
      let v = numbers.rename property w in
      let slot : Slot = (node, name) in
      let met = met_row first.0 slot n (node_still first.1 node n there) in
      let more = extends_then first.1 met.0.1 in
      subst
      (λ (called : Name). Goes w (visited t graph (Row (row_number n called v)) (meet_row n called v)) (told_by t node.0 (At slot) (tell (HasProperty slot) (names.rename property s))))
      (sym (renamed_alike agrees property))
      (goes_from more (visited t graph (Row (row_number n name v)) (meet_row n name v)) (told_by t node.0 (At slot) (tell (HasProperty slot) (names.rename property s)))
      (good graph node.0 (Row (row_number n name v)) (At slot) (meet_row n name v) (tell (HasProperty slot) (names.rename property s)) met.0.0 (graph_still more node.0 graph known)
      (at_row slot (row_number n name v) met.1)))

  reverse_property_goes : (name : Graph) (graph : ℕ) → KnowsGraph w.graphs name graph → (subject property : Name) (t : Tree) → Good t
      → Goes w (visit_reverse_property graph subject property (child_of t) w) (tell_reverse_property name subject property (teller_of t) s)
  reverse_property_goes name graph known subject property t good =
      let called = renamed property s in
      let first = rename_follows agrees property in
      let v = numbers.rename property w in
      subst (λ (c : Name). Goes w (visited t graph (Reverse subject c) v) (told_by t name (AtReverse subject called) (names.rename property s))) (sym (renamed_alike agrees property))
      (goes_from first.1 (visited t graph (Reverse subject called) v) (told_by t name (AtReverse subject called) (names.rename property s))
      (good graph name (Reverse subject called) (AtReverse subject called) v (names.rename property s) first.0 (graph_still first.1 name graph known) (at_reverse subject called)))

  entry_goes : (pass : Pass) (part : Part) → IsPart w pass part → (e : Entry) → Good e.1 → Goes w (visit_entry pass (on_value child_of e) w) (tell_entry part (on_value teller_of e) s)
  entry_goes pass part (of_items name graph known) e good =
      only_goes w s agrees (bytes_eq e.0 (codes "@list")) (visited e.1 graph Hand) (told_by e.1 name InList) (good graph name Hand InList w s agrees known in_list)
  entry_goes pass part (of_reverses name graph id known) e good =
      only_goes w s agrees (bytes_eq e.0 (codes "@reverse")) (visited e.1 graph (ReverseMap id)) (told_by e.1 name (AtReverses id))
      (good graph name (ReverseMap id) (AtReverses id) w s agrees known (at_reverses id))
  entry_goes pass part (of_reverse_properties name graph id known) e good = reverse_property_goes name graph known id e.0 e.1 good
  entry_goes pass part (of_graph name graph known) e good =
      only_goes w s agrees (bytes_eq e.0 (codes "@graph")) (visited e.1 graph Nowhere) (told_by e.1 name InGraph) (good graph name Nowhere InGraph w s agrees known in_graph)
  entry_goes pass part (of_included name graph known) e good =
      only_goes w s agrees (bytes_eq e.0 (codes "@included")) (visited e.1 graph Nowhere) (told_by e.1 name InGraph) (good graph name Nowhere InGraph w s agrees known in_graph)
  entry_goes pass part (of_properties node graph n known there) e good =
      only_goes w s agrees (not (is_keyword e.0)) (visit_property graph n e.0 (child_of e.1)) (tell_property node e.0 (teller_of e.1)) (property_goes node graph n known there e.0 e.1 good)

entries_go : (pass : Pass) (part : Part) (es : List Entry) → AllGoodEntries es → (w : Walk) (s : Told) → Agrees w s → IsPart w pass part
    → Goes w (visit_entries pass (map (on_value child_of) es) w) (tell_entries part (map (on_value teller_of) es) s)
entries_go pass part [] good w s agrees is = stays_here agrees
entries_go pass part (e ∷ es) good w s agrees is =
    goes_then (visit_entry pass (on_value child_of e) w) (tell_entry part (on_value teller_of e) s) (visit_entries pass (map (on_value child_of) es)) (tell_entries part (map (on_value teller_of) es))
    (entry_goes w s agrees pass part is e good.0) (λ v r agreed more. entries_go pass part es good.1 v r agreed (part_still more pass part is))

module _ (es : List Entry) (good : AllGoodEntries es) (element : Tree) where
  abbrev by_numbers : List (Name × visits.Child)
  by_numbers = map (on_value child_of) es

  abbrev by_names : List (Name × parts.Child)
  by_names = map (on_value teller_of) es

  list_goes : (graph : ℕ) (name : Graph) (place : Place) (spot : Spot) (w : Walk) (s : Told) → Agrees w s → KnowsGraph w.graphs name graph → IsSpot w place spot
      → Goes w (visit_list by_numbers graph place w) (tell_list by_names name spot s)
  list_goes graph name place spot w s agrees known at =
      let empty = with_hand agrees [] [] refl in
      let known' = graph_still empty.1 name graph known in
      goes_from empty.1 (visit_list by_numbers graph place w) (tell_list by_names name spot s)
      (goes_then (visit_entries (ListItems graph) by_numbers (record w { hand = [] })) (tell_entries (parts.Items name) by_names (record s { hand = [] }))
      (λ v. Ok (put place (list_object v.hand) (record v { hand = w.hand }))) (λ r. Ok (add spot (list_object r.hand) (record r { hand = s.hand })))
      (entries_go (ListItems graph) (parts.Items name) es good (record w { hand = [] }) (record s { hand = [] }) empty.0 (of_items name graph known'))
      (λ v r agreed more. added v r agreed (extends_then empty.1 more)))
    where
      added : (v : Walk) (r : Told) → Agrees v r → Extends w v → Follows v (put place (list_object v.hand) (record v { hand = w.hand })) (add spot (list_object r.hand) (record r { hand = s.hand }))
      added v r agreed more =
          let back = with_hand agreed w.hand s.hand agrees.hand in
          subst (λ (items : List Tree). Follows v (put place (list_object items) (record v { hand = w.hand })) (add spot (list_object r.hand) (record r { hand = s.hand }))) (sym agreed.hand)
          (follows_then back.1 (put_follows back.0 place spot (spot_still (extends_then more back.1) place spot at) (list_object r.hand)))

  graph_goes : (inner : Option Tree) (id : Name) (w : Walk) (s : Told) → Agrees w s → Goes w (visit_graph inner by_numbers id w) (tell_graph inner by_names id s)
  graph_goes None id w s agrees = stays_here agrees
  graph_goes (Some inner) id w s agrees =
      let graph = met_graph agrees id in
      let node : Subject = (None, id) in
      let met = met_node graph.0.0 node 0 refl in
      let v = meet_node 0 id (meet_graph id w) in
      let r = tell (IsNode node) s in
      goes_from (extends_then graph.0.1 met.0.1) (visit_entries (GraphPass (graph_number id w)) by_numbers v) (tell_entries (parts.Within (Some id)) by_names r)
      (entries_go (GraphPass (graph_number id w)) (parts.Within (Some id)) es good v r met.0.0 (of_graph (Some id) (graph_number id w) (graph_still met.0.1 (Some id) (graph_number id w) graph.1)))

  within_goes : (node : Subject) (graph n : ℕ) (w : Walk) (s : Told) → Agrees w s → KnowsGraph w.graphs node.0 graph → KnowsNode w node n
      → Goes w (visit_within by_numbers element graph node.1 n w) (tell_within by_names element node s)
  within_goes node graph n w s agrees known there =
      goes_then (visit_entries (Reversed graph node.1) by_numbers w) (tell_entries (parts.Reverses node.0 node.1) by_names s) _ _
      (entries_go (Reversed graph node.1) (parts.Reverses node.0 node.1) es good w s agrees (of_reverses node.0 graph node.1 known))
      (λ v r agreed more.
      goes_then (visit_graph (member (codes "@graph") element) by_numbers node.1 v) (tell_graph (member (codes "@graph") element) by_names node.1 r) _ _
      (graph_goes (member (codes "@graph") element) node.1 v r agreed)
      (λ v2 r2 agreed2 more2.
      goes_then (visit_entries (Included graph) by_numbers v2) (tell_entries (parts.Included node.0) by_names r2) _ _
      (entries_go (Included graph) (parts.Included node.0) es good v2 r2 agreed2 (of_included node.0 graph (graph_still (extends_then more more2) node.0 graph known)))
      (λ v3 r3 agreed3 more3.
      let all = extends_then (extends_then more more2) more3 in
      entries_go (Properties graph n) (parts.Properties node) es good v3 r3 agreed3 (of_properties node graph n (graph_still all node.0 graph known) (node_still all node n there)))))

  met_goes : (node : Subject) (graph : ℕ) (place : Place) (spot : Spot) (w : Walk) (s : Told) → Agrees w s → KnowsGraph w.graphs node.0 graph → IsSpot w place spot
      → Goes w (visit_met by_numbers element graph place node.1 w) (tell_content by_names element spot node s)
  met_goes node graph place spot w s agrees known at =
      let n = node_number graph node.1 w in
      let met = met_node agrees node graph known in
      let linked = link_follows met.0.0 place spot (spot_still met.0.1 place spot at) node n met.1 in
      let there = node_still linked.1 node n met.1 in
      let types = types_in (member (codes "@type") element) in
      let index = text_in (member (codes "@index") element) in
      let typed = add_types_follows linked.0 node n there types in
      let before = extends_then met.0.1 (extends_then linked.1 typed.1) in
      let there' = node_still typed.1 node n there in
      goes_from before (visit_met by_numbers element graph place node.1 w) (tell_content by_names element spot node s)
      (goes_then _ _ (visit_within by_numbers element graph node.1 n) (tell_within by_names element node) (add_index_goes typed.0 node n there' index)
      (λ v r agreed more. within_goes node graph n v r agreed (graph_still (extends_then before more) node.0 graph known) (node_still more node n there')))

  node_goes : (graph : ℕ) (name : Graph) (place : Place) (spot : Spot) (w : Walk) (s : Told) → Agrees w s → KnowsGraph w.graphs name graph → IsSpot w place spot
      → Goes w (visit_node by_numbers element graph place w) (tell_node by_names element name spot s)
  node_goes graph name place spot w s agrees known at =
      let given = text_in (member (codes "@id") element) in
      let first = identify_follows agrees given in
      let v = numbers.identify given w in
      let r = names.identify given s in
      let id = names.identifier given s in
      subst (λ (called : Name). Goes w (visit_met by_numbers element graph place called v) (tell_content by_names element spot (name, id) r)) (sym (identifier_alike agrees given))
      (goes_from first.1 (visit_met by_numbers element graph place id v) (tell_content by_names element spot (name, id) r)
      (met_goes (name, id) graph place spot v r first.0 (graph_still first.1 name graph known) (spot_still first.1 place spot at)))

  node_or_list_goes : (b : Bool) (graph : ℕ) (name : Graph) (place : Place) (spot : Spot) (w : Walk) (s : Told) → Agrees w s → KnowsGraph w.graphs name graph → IsSpot w place spot
      → Goes w (node_or_list b by_numbers element graph place w) (tell_node_or_list b by_names element name spot s)
  node_or_list_goes true = list_goes
  node_or_list_goes false = node_goes

  kind_goes : (b : Bool) (graph : ℕ) (name : Graph) (place : Place) (spot : Spot) (w : Walk) (s : Told) → Agrees w s → KnowsGraph w.graphs name graph → IsSpot w place spot
      → Goes w (visit_kind b by_numbers element graph place w) (tell_kind b by_names element name spot s)
  kind_goes true graph name place spot w s agrees known at =
      subst (λ (value : Tree). Follows w (put place value w) (add spot (names.renamed_value element s) s)) (sym (new_value_alike agrees element))
      (put_follows agrees place spot at (names.renamed_value element s))
  kind_goes false graph name place spot w s agrees known at = node_or_list_goes (is_list_object element) graph name place spot w s agrees known at

  object_goes : (graph : ℕ) (name : Graph) (place : Place) (spot : Spot) (w : Walk) (s : Told) → Agrees w s → KnowsGraph w.graphs name graph → IsSpot w place spot
      → Goes w (visit_object by_numbers element graph place w) (tell_object by_names element name spot s)
  object_goes graph name place spot w s agrees known at =
      let types = types_in (member (codes "@type") element) in
      let first = rename_each_follows types w s agrees in
      goes_from first.1 (visit_object by_numbers element graph place w) (tell_object by_names element name spot s)
      (kind_goes (is_value_object element) graph name place spot (numbers.rename_each types w) (names.rename_each types s) first.0 (graph_still first.1 name graph known)
      (spot_still first.1 place spot at))

  map_goes : (graph : ℕ) (name : Graph) (place : Place) (spot : Spot) (w : Walk) (s : Told) → Agrees w s → KnowsGraph w.graphs name graph → IsSpot w place spot
      → Goes w (visit_map by_numbers element graph place w) (tell_map by_names element name spot s)
  map_goes graph name place spot w s agrees known in_graph = object_goes graph name Nowhere InGraph w s agrees known in_graph
  map_goes graph name place spot w s agrees known (at_row slot row there) = object_goes graph name (Row row) (At slot) w s agrees known (at_row slot row there)
  map_goes graph name place spot w s agrees known in_list = object_goes graph name Hand InList w s agrees known in_list
  map_goes graph name place spot w s agrees known (at_reverses subject) =
      entries_go (ReverseProperties graph subject) (parts.ReverseProperties name subject) es good w s agrees (of_reverse_properties name graph subject known)
  map_goes graph name place spot w s agrees known (at_reverse subject property) =
      object_goes graph name (Reverse subject property) (AtReverse subject property) w s agrees known (at_reverse subject property)

-- ---- level by level

visited_roll : (x : Tree-F Tree) (graph : ℕ) (place : Place) (w : Walk) → visited (roll-Tree x) graph place w ≡ visit_step (map-Tree Tree visits.Child child_of x) (roll-Tree x) graph place w
unfolding child_of
visited_roll x graph place w = ap (λ (f : Visit). f (roll-Tree x) graph place w) (para-roll Visit visit_step x)

told_roll : (x : Tree-F Tree) (name : Graph) (spot : Spot) (s : Told) → told_by (roll-Tree x) name spot s ≡ tell_step (map-Tree Tree parts.Child teller_of x) (roll-Tree x) name spot s
unfolding teller_of
told_roll x name spot s = ap (λ (f : Teller). f (roll-Tree x) name spot s) (para-roll Teller tell_step x)

abbrev Kept : Type 0
Kept = (t : Tree) × Good t

abbrev tree_in : Kept → Tree
tree_in k = k.0

good_items : (ks : List Kept) → AllGood (map tree_in ks)
good_items [] = tt
good_items (k ∷ ks) = (k.1, good_items ks)

good_entries : (es : List (Name × Kept)) → AllGoodEntries (map (on_value tree_in) es)
good_entries [] = tt
good_entries (e ∷ es) = (e.1.1, good_entries es)

step_goes : (y : Tree-F Kept) (element : Tree) (graph : ℕ) (name : Graph) (place : Place) (spot : Spot) (w : Walk) (s : Told) → Agrees w s → KnowsGraph w.graphs name graph → IsSpot w place spot
    → Goes w (visit_step (map-Tree Tree visits.Child child_of (map-Tree Kept Tree tree_in y)) element graph place w)
    (tell_step (map-Tree Tree parts.Child teller_of (map-Tree Kept Tree tree_in y)) element name spot s)
step_goes (Tree-F.List ks) element graph name place spot w s agrees known at = each_goes (map tree_in ks) (good_items ks) graph name place spot w s agrees known at
step_goes (Tree-F.Map es) element graph name place spot w s agrees known at = map_goes (map (on_value tree_in) es.0) (good_entries es.0) element graph name place spot w s agrees known at
step_goes (Tree-F.Text text) element graph name place spot w s agrees known at = stays_here agrees
step_goes (Tree-F.Num n) element graph name place spot w s agrees known at = stays_here agrees
step_goes (Tree-F.Bool b) element graph name place spot w s agrees known at = stays_here agrees
step_goes Tree-F.Null element graph name place spot w s agrees known at = stays_here agrees

good_roll : (y : Tree-F Kept) → Good (roll-Tree (map-Tree Kept Tree tree_in y))
good_roll y graph name place spot w s agrees known at =
    let x : Tree-F Tree = map-Tree Kept Tree tree_in y in
    subst (λ (a : Answer). Goes w a (told_by (roll-Tree x) name spot s)) (sym (visited_roll x graph place w))
    (subst (λ (b : Telling). Goes w (visit_step (map-Tree Tree visits.Child child_of x) (roll-Tree x) graph place w) b) (sym (told_roll x name spot s))
    (step_goes y (roll-Tree x) graph name place spot w s agrees known at))

all_good : (t : Tree) → Good t
all_good = ind-Tree Good (λ x y is. subst (λ (v : Tree-F Tree). Good (roll-Tree v)) is (good_roll y))

-- ---- the flattened form

begun : Agrees start nothing
begun = record {
  given = refl;
  hand = refl;
  names = λ name. refl;
  graphs_tell = tells_none nat_list_cmp_total;
  node_keys = [];
  row_keys = [];
  values = [];
  indexes = [];
  stands = no_fact;
  nodes_are = refl;
  rows_are = refl;
  values_are = refl;
  indexes_are = refl;
}

flat_of : (a : Answer) (b : Telling) → Goes start a b → flattened_by_walk a ≡ flattened_by (node_map_by b)
flat_of (Ok w) (Ok s) h = ap (λ (objects : List Tree). Ok (t.List objects)) (flat_alike h.0)
flat_of (Err e) (Err f) h = ap (λ c. Err c) h
flat_of (Ok w) (Err f) h = absurd h
flat_of (Err e) (Ok s) h = absurd h

-- by numbers and by names the flattened form is the same
pub flattened_alike : (expanded : Tree) → numbers_flattened expanded ≡ flattened expanded
flattened_alike expanded =
    flat_of (visited expanded 0 Nowhere start) (told_by expanded None InGraph nothing) (all_good expanded 0 None Nowhere InGraph start nothing begun refl in_graph)
