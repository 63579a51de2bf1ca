-- The node map by numbers is that by names, and so is its flattened form.
use Rattle.std.proofs.Common.{◌≡◌, ◌∙◌, ◌+◌, ◌<◌, refl, sym, ap, ap₂, subst, ℕ, Bool, List, [], ◌∷◌, length, map, replicate, get_or, Option, None, Some, arith}
use Rattle.std.specs.Prelude.{cond, filter_map, Ok}
use Rattle.std.specs.List.{AllByRecursion}
use Rattle.std.specs.Map.{lookup}
use Rattle.std.specs.BTreeMap.{is_at}
use Rattle.std.specs.Ordering.{nat_cmp}
use Rattle.ld_group.specs.Firsts.{firsts}
use Rattle.ld_group.specs.Groups.{grouped}
use Rattle.ld_tree.specs.Names.{name_cmp}
use Rattle.ld_tree.specs.declared.tree.Tree.{Tree}
use Rattle.ld_tree.specs.declared.tree.Tree.TheVariants as t
use Rattle.ld_nodes.specs.Flat.{flat_node, flat_nodes, graph_of, node_object}
use Rattle.ld_nodes.specs.Maps.{Properties, node_lists, node_map, row_lists}
use Rattle.ld_nodes.specs.Maps as numbers
use Rattle.ld_nodes.specs.Names.{Graph, Name, Slot, Subject}
use Rattle.ld_nodes.specs.NodeMap.{ids_in, node_of, nodes_of, properties_of, property_of, values_of}
use Rattle.ld_nodes.specs.Numbers.{flat_object, flat_objects, graph_at}
use Rattle.ld_nodes.specs.Tables.{Table}
use Rattle.ld_nodes.specs.Told.{Fact, Told, index_of}
use Rattle.ld_nodes.specs.Walks.{Key, Walk, key_cmp}
use Rattle.ld_nodes.specs.declared.node.Node.{Node}
use Rattle.ld_nodes.proofs.Numbered.{AreFound, all_found, assembled, grouped_items, items_with, names_with}
use Rattle.ld_nodes.proofs.Standing.{Agrees, KnowsGraph, KnowsNode, KnowsRow, all_sorted, graph_below, index_told, met_all, names_of_graph, names_of_node, no_names, node_below, put_all, row_below, values_told, in_turn}

-- what holds of each, from what holds of each
all_so : {X : Type 0} (P Q : X → Type 0) → ((x : X) → P x → Q x) → (xs : List X) → AllByRecursion P xs → AllByRecursion Q xs
all_so P Q so [] all = tt
all_so P Q so (x ∷ xs) all = (so x all.0, all_so P Q so xs all.1)

module _ {w : Walk} {s : Told} (agrees : Agrees w s) where
  nodes_found : AreFound w.nodes w.nodes
  nodes_found = subst (λ t. AreFound t t) (sym agrees.nodes_are) (all_found (met_all agrees.node_keys) (all_sorted agrees.node_keys))

  rows_found : AreFound w.rows w.rows
  rows_found = subst (λ t. AreFound t t) (sym agrees.rows_are) (all_found (met_all agrees.row_keys) (all_sorted agrees.row_keys))

  -- the values of a row
  row_values : (slot : Slot) (n : ℕ) → KnowsRow w slot n → get_or (row_lists w) n [] ≡ values_of slot s.facts
  row_values slot n known =
      grouped_items (length w.rows) (firsts w.values) n (row_below agrees slot n known) ∙ ap (λ vs. items_with n (firsts vs)) agrees.values_are
      ∙ values_told agrees slot n known s.facts agrees.node_keys agrees.row_keys agrees.values agrees.indexes agrees.stands

  abbrev row_property : Key × ℕ → Name × Tree
  row_property row = (row.0.1, t.List (get_or (row_lists w) row.1 []))

  -- the properties of a node
  node_properties : (node : Subject) (n : ℕ) → KnowsNode w node n → get_or (node_lists w) n [] ≡ map (property_of s.facts node) (properties_of node s.facts)
  node_properties node n known =
      grouped_items (length w.nodes) (map (numbers.property_of (row_lists w)) w.rows) n (node_below agrees node n known)
      ∙ assembled row_property (property_of s.facts node) n w.rows (all_so _ (λ (e : Key × ℕ). e.0.0 ≡ n → row_property e ≡ property_of s.facts node e.0.1) one w.rows rows_found)
      ∙ ap (map (property_of s.facts node)) (ap (names_with n) agrees.rows_are
      ∙ names_of_node agrees node n known s.facts agrees.node_keys agrees.row_keys agrees.values agrees.indexes agrees.stands)
    where
      one : (e : Key × ℕ) → lookup (is_at (key_cmp e.0)) w.rows ≡ Some e.1 → e.0.0 ≡ n → row_property e ≡ property_of s.facts node e.0.1
      one e found same =
          let slot : Slot = (node, e.0.1) in
          let there : KnowsRow w slot e.1 = record { node = e.0.0; knows = subst (λ m. KnowsNode w node m) (sym same) known; found = found } in
          ap (λ (values : List Tree). let property : Name × Tree = (e.0.1, t.List values) in property) (row_values slot e.1 there)

  abbrev numbered_node : Key × ℕ → Node
  numbered_node node = record { id = node.0.1; index = lookup (is_at (nat_cmp node.1)) w.indexes; properties = get_or (node_lists w) node.1 [] }

  -- the nodes of a graph
  graph_nodes : (graph : Graph) (n : ℕ) → KnowsGraph w.graphs graph n → get_or (node_map w) n [] ≡ nodes_of s.facts graph
  graph_nodes graph n known =
      grouped_items (length w.graphs + 1) (map (numbers.node_of (node_lists w) w.indexes) w.nodes) n (graph_below agrees graph n known)
      ∙ assembled numbered_node (node_of s.facts graph) n w.nodes (all_so _ (λ (e : Key × ℕ). e.0.0 ≡ n → numbered_node e ≡ node_of s.facts graph e.0.1) one w.nodes nodes_found)
      ∙ ap (map (node_of s.facts graph)) (ap (names_with n) agrees.nodes_are
      ∙ names_of_graph agrees graph n known s.facts agrees.node_keys agrees.row_keys agrees.values agrees.indexes agrees.stands)
    where
      one : (e : Key × ℕ) → lookup (is_at (key_cmp e.0)) w.nodes ≡ Some e.1 → e.0.0 ≡ n → numbered_node e ≡ node_of s.facts graph e.0.1
      one e found same =
          let node : Subject = (graph, e.0.1) in
          let there : KnowsNode w node e.1 = record { graph = e.0.0; knows = subst (λ m. KnowsGraph w.graphs graph m) (sym same) known; found = found } in
          ap₂ (λ (index : Option Name) (properties : List (Name × Tree)). let made : Node = record { id = e.0.1; index = index; properties = properties } in made)
          (ap (lookup (is_at (nat_cmp e.1))) agrees.indexes_are ∙ index_told agrees node e.1 there s.facts agrees.node_keys agrees.row_keys agrees.values agrees.indexes agrees.stands)
          (node_properties node e.1 there)

  -- the graph of a name
  named_graph : (name : Name) (found : Option ℕ) → lookup (is_at (name_cmp name)) w.graphs ≡ found → graph_at (node_map w) found ≡ graph_of (nodes_of s.facts (Some name))
  named_graph name (Some m) is = ap graph_of (graph_nodes (Some name) (m + 1) (m, is, refl))
  named_graph name None is =
      sym (ap (λ ids. graph_of (map (node_of s.facts (Some name)) ids)) (no_names agrees name is s.facts agrees.node_keys agrees.row_keys agrees.values agrees.indexes agrees.stands))

  pub flat_alike : flat_objects (node_map w) w.graphs ≡ flat_nodes (nodes_of s.facts)
  flat_alike =
      (λ i. filter_map (λ (node : Node). node_object (named_graph node.id (lookup (is_at (name_cmp node.id)) w.graphs) refl i) node) (get_or (node_map w) 0 []))
      ∙ ap (filter_map (flat_node (nodes_of s.facts))) (graph_nodes None 0 refl)
