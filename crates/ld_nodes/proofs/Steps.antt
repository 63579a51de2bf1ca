-- The single steps of a walk by numbers and of one by names: what they do agrees.
use Rattle.std.proofs.Common.{◌≡◌, ◌∙◌, ◌+◌, ◌++◌, ◌==◌, refl, sym, ap, ap₂, subst, ℕ, Bool, true, false, List, [], ◌∷◌, length, map, Option, None, Some}
use Rattle.std.specs.Prelude.{cond, option_map, unwrap_or, Ok, Err, codes}
use Rattle.std.proofs.lemmas.Cmp.{nat_list_cmp_total}
use Rattle.std.proofs.lemmas.Map.Text.{is_eq-slice_cmp}
use Rattle.std.specs.Cmp.{IsTotalOrder}
use Rattle.std.specs.Map.{lookup}
use Rattle.std.specs.Str.{bytes_eq}
use Rattle.std.specs.BTreeMap.{insert_entry, is_at}
use Rattle.std.specs.Ordering.{is_eq, nat_cmp}
use Rattle.std.specs.declared.cmp.Ordering.{Ordering}
use Rattle.std.specs.declared.cmp.Ordering.TheVariants.{Equal}
use Rattle.ld_codes.specs.declared.code.Code.TheVariants as code
use Rattle.ld_iri.specs.Words.{is_blank}
use Rattle.ld_rec.specs.Kinds.{entries_of, list_of, map_of, text_tree}
use Rattle.ld_rec.specs.Words.{text_of}
use Rattle.ld_tree.specs.Maps as maps
use Rattle.ld_tree.specs.Names.{name_cmp}
use Rattle.ld_tree.specs.Trees.{member}
use Rattle.ld_tree.specs.declared.tree.Tree.{Tree, out-Tree}
use Rattle.ld_tree.specs.declared.tree.Tree.TheOpen.{Tree-F}
use Rattle.ld_nodes.specs.Names.{Graph, Name, Slot, Subject, blank_name}
use Rattle.ld_nodes.specs.Places.{Place, Nowhere, Row, Hand, ReverseMap, Reverse}
use Rattle.ld_nodes.specs.Tables.{Table, met, number_of}
use Rattle.ld_nodes.specs.Told.{Fact, HasIndex, HasProperty, HasValue, IsNode, Spot, InGraph, At, InList, AtReverses, AtReverse, Telling, Told, add, index_of, reference, renamed, renamed_type, renamed_type_of, renamed_types_in, renamed_value, renamed_value_of, tell, then_on}
use Rattle.ld_nodes.specs.Told as names
use Rattle.ld_nodes.specs.Walks.{Answer, Key, Walk, key_cmp, new_name, new_type, new_type_of, new_types, new_types_of, new_value, new_value_of, node_number, graph_number, number_given, row_number, meet_graph, meet_node, meet_row, put, then_go}
use Rattle.ld_nodes.specs.Walks as numbers
use Rattle.ld_nodes.proofs.Numbered.{key_self, key_total, name_self}
use Rattle.ld_nodes.proofs.Standing.{Agrees, Extends, KnowsGraph, KnowsNode, KnowsRow, Stands, extends_then, found_put, graph_still, index_told, node_still, row_still, stands_index, stands_node, stands_property, stands_still, stands_value}
use Rattle.ld_nodes.proofs.Telling.{Tells, stays, tells_met}

-- ---- where two walks are after a step

abbrev pub Follows : Walk → Walk → Told → Type 0
Follows w v r = Agrees v r × Extends w v

abbrev pub Goes : Walk → Answer → Telling → Type 0
Goes w (Ok v) (Ok r) = Follows w v r
Goes w (Err e) (Err f) = e ≡ f
Goes w (Ok v) (Err f) = ⊥
Goes w (Err e) (Ok r) = ⊥

pub extends_same : {w v : Walk} → v.graphs ≡ w.graphs → v.nodes ≡ w.nodes → v.rows ≡ w.rows → Extends w v
extends_same graphs nodes rows = record {
  graphs = λ name n e. ap (lookup (is_at (name_cmp name))) graphs ∙ e;
  nodes = λ key n e. ap (lookup (is_at (key_cmp key))) nodes ∙ e;
  rows = λ key n e. ap (lookup (is_at (key_cmp key))) rows ∙ e;
}

pub goes_from : {w v : Walk} → Extends w v → (a : Answer) (b : Telling) → Goes v a b → Goes w a b
goes_from more (Ok u) (Ok r) h = (h.0, extends_then more h.1)
goes_from more (Err e) (Err f) h = h
goes_from more (Ok u) (Err f) h = h
goes_from more (Err e) (Ok r) h = h

pub goes_then : {w : Walk} (a : Answer) (b : Telling) (f : Walk → Answer) (g : Told → Telling) → Goes w a b → ((v : Walk) (r : Told) → Agrees v r → Extends w v → Goes v (f v) (g r))
    → Goes w (then_go a f) (then_on b g)
goes_then (Ok v) (Ok r) f g h next = goes_from h.1 (f v) (g r) (next v r h.0 h.1)
goes_then (Err e) (Err c) f g h next = h
goes_then (Ok v) (Err c) f g h next = absurd h
goes_then (Err e) (Ok r) f g h next = absurd h

pub stays_here : {w : Walk} {s : Told} → Agrees w s → Follows w w s
stays_here agrees = (agrees, extends_same refl refl refl)

pub follows_then : {w v u : Walk} {t : Told} → Extends w v → Follows v u t → Follows w u t
follows_then more h = (h.0, extends_then more h.1)

module _ {w : Walk} {s : Told} (agrees : Agrees w s) where
  -- ---- what touches no table

  pub with_hand : (h k : List Tree) → h ≡ k → Follows w (record w { hand = h }) (record s { hand = k })
  with_hand h k same =
      let more : Extends w (record w { hand = h }) = extends_same refl refl refl in (
        record {
          given = agrees.given;
          hand = same;
          names = agrees.names;
          graphs_tell = agrees.graphs_tell;
          node_keys = agrees.node_keys;
          row_keys = agrees.row_keys;
          values = agrees.values;
          indexes = agrees.indexes;
          stands = stands_still more s.facts agrees.node_keys agrees.row_keys agrees.values agrees.indexes agrees.stands;
          nodes_are = agrees.nodes_are;
          rows_are = agrees.rows_are;
          values_are = agrees.values_are;
          indexes_are = agrees.indexes_are;
        },
        more,
      )

  pub give_follows : Follows w (numbers.give w) (names.give s)
  give_follows =
      let more : Extends w (numbers.give w) = extends_same refl refl refl in (
        record {
          given = ap (λ (n : ℕ). n + 1) agrees.given;
          hand = agrees.hand;
          names = agrees.names;
          graphs_tell = agrees.graphs_tell;
          node_keys = agrees.node_keys;
          row_keys = agrees.row_keys;
          values = agrees.values;
          indexes = agrees.indexes;
          stands = stands_still more s.facts agrees.node_keys agrees.row_keys agrees.values agrees.indexes agrees.stands;
          nodes_are = agrees.nodes_are;
          rows_are = agrees.rows_are;
          values_are = agrees.values_are;
          indexes_are = agrees.indexes_are;
        },
        more,
      )

  name_found : (name q : Name) → lookup (bytes_eq q) ((name, blank_name s.given) ∷ s.names) ≡ option_map blank_name (lookup (is_at (name_cmp q)) (insert_entry name_cmp w.names name w.given))
  name_found name q =
      ap₂ (λ (n : ℕ) (o : Option Name). cond (bytes_eq q name) (Some (blank_name n)) o) (sym agrees.given) (agrees.names q)
      ∙ ap (λ (b : Bool). cond b (Some (blank_name w.given)) (option_map blank_name (lookup (is_at (name_cmp q)) w.names))) (sym (is_eq-slice_cmp q name))
      ∙ mapped (is_eq (name_cmp q name)) (lookup (is_at (name_cmp q)) w.names)
      ∙ sym (ap (option_map blank_name) (found_put nat_list_cmp_total name w.given q w.names))
    where
      mapped : (b : Bool) (o : Option ℕ) → cond b (Some (blank_name w.given)) (option_map blank_name o) ≡ option_map blank_name (cond b (Some w.given) o)
      mapped true o = refl
      mapped false o = refl

  give_to_follows : (name : Name) → Follows w (numbers.give_to name w) (names.give_to name s)
  give_to_follows name =
      let more : Extends w (numbers.give_to name w) = extends_same refl refl refl in (
        record {
          given = ap (λ (n : ℕ). n + 1) agrees.given;
          hand = agrees.hand;
          names = name_found name;
          graphs_tell = agrees.graphs_tell;
          node_keys = agrees.node_keys;
          row_keys = agrees.row_keys;
          values = agrees.values;
          indexes = agrees.indexes;
          stands = stands_still more s.facts agrees.node_keys agrees.row_keys agrees.values agrees.indexes agrees.stands;
          nodes_are = agrees.nodes_are;
          rows_are = agrees.rows_are;
          values_are = agrees.values_are;
          indexes_are = agrees.indexes_are;
        },
        more,
      )

  given_where : (name : Name) (o : Option ℕ) → Follows w (numbers.give_where o name w) (names.give_where (option_map blank_name o) name s)
  given_where name None = give_to_follows name
  given_where name (Some n) = stays_here agrees

  rename_where : (name : Name) (b : Bool) → Follows w (cond b (numbers.give_where (number_given name w) name w) w) (cond b (names.give_where (names.known_name name s) name s) s)
  rename_where name true = subst (λ o. Follows w (numbers.give_where (number_given name w) name w) (names.give_where o name s)) (sym (agrees.names name)) (given_where name (number_given name w))
  rename_where name false = stays_here agrees

  pub rename_follows : (name : Name) → Follows w (numbers.rename name w) (names.rename name s)
  rename_follows name = rename_where name (is_blank name)

  pub renamed_alike : (name : Name) → new_name name w ≡ renamed name s
  renamed_alike name =
      ap (λ (n : Name). cond (is_blank name) n name)
      (or_given (number_given name w) ∙ ap₂ (λ (o : Option Name) (n : ℕ). unwrap_or o (blank_name n)) (sym (agrees.names name)) agrees.given)
    where
      or_given : (o : Option ℕ) → blank_name (unwrap_or o w.given) ≡ unwrap_or (option_map blank_name o) (blank_name w.given)
      or_given None = refl
      or_given (Some n) = refl

  pub identifier_alike : (id : Option Name) → numbers.identifier id w ≡ names.identifier id s
  identifier_alike None = ap blank_name agrees.given
  identifier_alike (Some id) = renamed_alike id

  pub identify_follows : (id : Option Name) → Follows w (numbers.identify id w) (names.identify id s)
  identify_follows None = give_follows
  identify_follows (Some id) = rename_follows id

  -- ---- types

  rename_text_follows : (name : Option Name) → Follows w (numbers.rename_text name w) (names.rename_text name s)
  rename_text_follows None = stays_here agrees
  rename_text_follows (Some name) = rename_follows name

  type_alike : (name : Option Name) (type : Tree) → new_type_of name type w ≡ renamed_type_of name type s
  type_alike None type = refl
  type_alike (Some name) type = ap text_tree (renamed_alike name)

  each_alike : (types : List Tree) → map (new_type w) types ≡ map (renamed_type s) types
  each_alike [] = refl
  each_alike (type ∷ types) = ap₂ (λ (t : Tree) (ts : List Tree). t ∷ ts) (type_alike (text_of type) type) (each_alike types)

  types_alike : (level : Tree-F Tree) (types : Tree) → new_types_of level types w ≡ renamed_types_in level types s
  types_alike (Tree-F.List items) types = ap list_of (each_alike items)
  types_alike (Tree-F.Map es) types = type_alike (text_of types) types
  types_alike (Tree-F.Text text) types = type_alike (text_of types) types
  types_alike (Tree-F.Num n) types = type_alike (text_of types) types
  types_alike (Tree-F.Bool b) types = type_alike (text_of types) types
  types_alike Tree-F.Null types = type_alike (text_of types) types

  value_alike : (types : Option Tree) (value : Tree) → new_value_of types value w ≡ renamed_value_of types value s
  value_alike None value = refl
  value_alike (Some types) value = ap (λ (t : Tree). map_of (maps.put (entries_of value) (codes "@type") t)) (types_alike (out-Tree types) types)

  pub new_value_alike : (value : Tree) → new_value value w ≡ renamed_value value s
  new_value_alike value = value_alike (member (codes "@type") value) value

  -- ---- tables

  met_found : {K : Type 0} {cmp : K → K → Ordering} (total : IsTotalOrder cmp) (table : Table K) (key : K) → cmp key key ≡ Equal
      → lookup (is_at (cmp key)) (met cmp table key) ≡ Some (number_of cmp table key)
  met_found {K} {cmp} total table key self =
      found_put total key (number_of cmp table key) key table ∙ ap (λ o. cond (is_eq o) (Some (number_of cmp table key)) (lookup (is_at (cmp key)) table)) self

  pub met_graph : (id : Name) → Follows w (meet_graph id w) s × KnowsGraph (meet_graph id w).graphs (Some id) (graph_number id w)
  met_graph id =
      let more : Extends w (meet_graph id w) = record { graphs = λ name n e. stays nat_list_cmp_total w.graphs id name n e; nodes = λ key n e. e; rows = λ key n e. e } in (
        (
          record {
            given = agrees.given;
            hand = agrees.hand;
            names = agrees.names;
            graphs_tell = tells_met nat_list_cmp_total w.graphs agrees.graphs_tell id;
            node_keys = agrees.node_keys;
            row_keys = agrees.row_keys;
            values = agrees.values;
            indexes = agrees.indexes;
            stands = stands_still more s.facts agrees.node_keys agrees.row_keys agrees.values agrees.indexes agrees.stands;
            nodes_are = agrees.nodes_are;
            rows_are = agrees.rows_are;
            values_are = agrees.values_are;
            indexes_are = agrees.indexes_are;
          },
          more,
        ),
        (number_of name_cmp w.graphs id, met_found nat_list_cmp_total w.graphs id (name_self id), refl),
      )

  pub met_node : (node : Subject) (graph : ℕ) → KnowsGraph w.graphs node.0 graph
      → Follows w (meet_node graph node.1 w) (tell (IsNode node) s) × KnowsNode (meet_node graph node.1 w) node (node_number graph node.1 w)
  met_node node graph known =
      let more : Extends w (meet_node graph node.1 w) = record { graphs = λ name n e. e; nodes = λ key n e. stays key_total w.nodes (graph, node.1) key n e; rows = λ key n e. e } in (
        (
          record {
            given = agrees.given;
            hand = agrees.hand;
            names = agrees.names;
            graphs_tell = agrees.graphs_tell;
            node_keys = (graph, node.1) ∷ agrees.node_keys;
            row_keys = agrees.row_keys;
            values = agrees.values;
            indexes = agrees.indexes;
            stands = stands_node s.facts agrees.node_keys agrees.row_keys agrees.values agrees.indexes
                (stands_still more s.facts agrees.node_keys agrees.row_keys agrees.values agrees.indexes agrees.stands) node graph known;
            nodes_are = ap (λ table. met key_cmp table (graph, node.1)) agrees.nodes_are;
            rows_are = agrees.rows_are;
            values_are = agrees.values_are;
            indexes_are = agrees.indexes_are;
          },
          more,
        ),
        record { graph = graph; knows = known; found = met_found key_total w.nodes (graph, node.1) (key_self (graph, node.1)) },
      )

  pub met_row : (slot : Slot) (node : ℕ) → KnowsNode w slot.0 node
      → Follows w (meet_row node slot.1 w) (tell (HasProperty slot) s) × KnowsRow (meet_row node slot.1 w) slot (row_number node slot.1 w)
  met_row slot node known =
      let more : Extends w (meet_row node slot.1 w) = record { graphs = λ name n e. e; nodes = λ key n e. e; rows = λ key n e. stays key_total w.rows (node, slot.1) key n e } in (
        (
          record {
            given = agrees.given;
            hand = agrees.hand;
            names = agrees.names;
            graphs_tell = agrees.graphs_tell;
            node_keys = agrees.node_keys;
            row_keys = (node, slot.1) ∷ agrees.row_keys;
            values = agrees.values;
            indexes = agrees.indexes;
            stands = stands_property s.facts agrees.node_keys agrees.row_keys agrees.values agrees.indexes
                (stands_still more s.facts agrees.node_keys agrees.row_keys agrees.values agrees.indexes agrees.stands) slot node (node_still more slot.0 node known);
            nodes_are = agrees.nodes_are;
            rows_are = ap (λ table. met key_cmp table (node, slot.1)) agrees.rows_are;
            values_are = agrees.values_are;
            indexes_are = agrees.indexes_are;
          },
          more,
        ),
        record { node = node; knows = node_still more slot.0 node known; found = met_found key_total w.rows (node, slot.1) (key_self (node, slot.1)) },
      )

  put_row : (slot : Slot) (row : ℕ) → KnowsRow w slot row → (value : Tree) → Follows w (put (Row row) value w) (tell (HasValue slot value) s)
  put_row slot row known value =
      let more : Extends w (put (Row row) value w) = extends_same refl refl refl in (
        record {
          given = agrees.given;
          hand = agrees.hand;
          names = agrees.names;
          graphs_tell = agrees.graphs_tell;
          node_keys = agrees.node_keys;
          row_keys = agrees.row_keys;
          values = (row, value) ∷ agrees.values;
          indexes = agrees.indexes;
          stands = stands_value s.facts agrees.node_keys agrees.row_keys agrees.values agrees.indexes
              (stands_still more s.facts agrees.node_keys agrees.row_keys agrees.values agrees.indexes agrees.stands) slot value row (row_still more slot row known);
          nodes_are = agrees.nodes_are;
          rows_are = agrees.rows_are;
          values_are = ap (λ vs. vs ++ (row, value) ∷ []) agrees.values_are;
          indexes_are = agrees.indexes_are;
        },
        more,
      )

  put_index : (node : Subject) (n : ℕ) → KnowsNode w node n → (index : Name) → Follows w (record w { indexes = insert_entry nat_cmp w.indexes n index }) (tell (HasIndex node index) s)
  put_index node n known index =
      let more : Extends w (record w { indexes = insert_entry nat_cmp w.indexes n index }) = extends_same refl refl refl in (
        record {
          given = agrees.given;
          hand = agrees.hand;
          names = agrees.names;
          graphs_tell = agrees.graphs_tell;
          node_keys = agrees.node_keys;
          row_keys = agrees.row_keys;
          values = agrees.values;
          indexes = (n, index) ∷ agrees.indexes;
          stands = stands_index s.facts agrees.node_keys agrees.row_keys agrees.values agrees.indexes
              (stands_still more s.facts agrees.node_keys agrees.row_keys agrees.values agrees.indexes agrees.stands) node index n (node_still more node n known);
          nodes_are = agrees.nodes_are;
          rows_are = agrees.rows_are;
          values_are = agrees.values_are;
          indexes_are = ap (λ is. insert_entry nat_cmp is n index) agrees.indexes_are;
        },
        more,
      )

  -- ---- indexes

  index_beside_goes : (node : Subject) (n : ℕ) → KnowsNode w node n → (index : Name) (found : Option Name) → Goes w (numbers.index_beside found index n w) (names.index_beside found index node s)
  index_beside_goes node n known index None = put_index node n known index
  index_beside_goes node n known index (Some other) = beside (bytes_eq other index)
    where
      beside : (b : Bool) → Goes w (cond b (Ok w) (Err code.ConflictingIndexes)) (cond b (Ok s) (Err code.ConflictingIndexes))
      beside true = stays_here agrees
      beside false = refl

  pub add_index_goes : (node : Subject) (n : ℕ) → KnowsNode w node n → (index : Option Name) → Goes w (numbers.add_index index n w) (names.add_index index node s)
  add_index_goes node n known None = stays_here agrees
  add_index_goes node n known (Some index) =
      subst (λ found. Goes w (numbers.index_beside (lookup (is_at (nat_cmp n)) w.indexes) index n w) (names.index_beside found index node s))
      (ap (lookup (is_at (nat_cmp n))) agrees.indexes_are
      ∙ index_told agrees node n known s.facts agrees.node_keys agrees.row_keys agrees.values agrees.indexes agrees.stands)
      (index_beside_goes node n known index (lookup (is_at (nat_cmp n)) w.indexes))

-- ---- places

-- the place and the spot are one
pub data IsSpot (w : Walk) : Place → Spot → Type 0 where
  in_graph : IsSpot w Nowhere InGraph
  at_row : (slot : Slot) (row : ℕ) → KnowsRow w slot row → IsSpot w (Row row) (At slot)
  in_list : IsSpot w Hand InList
  at_reverses : (subject : Name) → IsSpot w (ReverseMap subject) (AtReverses subject)
  at_reverse : (subject property : Name) → IsSpot w (Reverse subject property) (AtReverse subject property)

pub spot_still : {w v : Walk} → Extends w v → (place : Place) (spot : Spot) → IsSpot w place spot → IsSpot v place spot
spot_still more place spot in_graph = in_graph
spot_still more place spot (at_row slot row known) = at_row slot row (row_still more slot row known)
spot_still more place spot in_list = in_list
spot_still more place spot (at_reverses subject) = at_reverses subject
spot_still more place spot (at_reverse subject property) = at_reverse subject property

module _ {w : Walk} {s : Told} (agrees : Agrees w s) where
  pub put_follows : (place : Place) (spot : Spot) → IsSpot w place spot → (value : Tree) → Follows w (put place value w) (add spot value s)
  put_follows place spot in_graph value = stays_here agrees
  put_follows place spot (at_row slot row known) value = put_row agrees slot row known value
  put_follows place spot in_list value = with_hand agrees (w.hand ++ value ∷ []) (s.hand ++ value ∷ []) (ap (λ h. h ++ value ∷ []) agrees.hand)
  put_follows place spot (at_reverses subject) value = stays_here agrees
  put_follows place spot (at_reverse subject property) value = stays_here agrees

  pub link_follows : (place : Place) (spot : Spot) → IsSpot w place spot → (node : Subject) (n : ℕ) → KnowsNode w node n → Follows w (numbers.link place node.1 n w) (names.link spot node s)
  link_follows place spot in_graph node n known = stays_here agrees
  link_follows place spot (at_row slot row there) node n known = put_row agrees slot row there (reference node.1)
  link_follows place spot in_list node n known = put_follows Hand InList in_list (reference node.1)
  link_follows place spot (at_reverses subject) node n known = stays_here agrees
  link_follows place spot (at_reverse subject property) node n known =
      let met = met_row agrees (node, property) n known in follows_then met.0.1 (put_row met.0.0 (node, property) (row_number n property w) met.1 (reference subject))

pub rename_each_follows : (types : List Tree) (w : Walk) (s : Told) → Agrees w s → Follows w (numbers.rename_each types w) (names.rename_each types s)
rename_each_follows [] w s agrees = stays_here agrees
rename_each_follows (type ∷ types) w s agrees =
    let first = rename_text_follows agrees (text_of type) in
    follows_then first.1 (rename_each_follows types (numbers.rename_text (text_of type) w) (names.rename_text (text_of type) s) first.0)

add_type_follows : {w : Walk} {s : Told} → Agrees w s → (slot : Slot) (row : ℕ) → KnowsRow w slot row → (name : Option Name) → Follows w (numbers.add_type row name w) (names.add_type slot name s)
add_type_follows agrees slot row known None = stays_here agrees
add_type_follows {w} {s} agrees slot row known (Some name) =
    let first = rename_follows agrees name in
    subst (λ (type : Name). Follows w (put (Row row) (text_tree type) (numbers.rename name w)) (add (At slot) (text_tree (renamed name s)) (names.rename name s))) (sym (renamed_alike agrees name))
    (follows_then first.1 (put_row first.0 slot row (row_still first.1 slot row known) (text_tree (renamed name s))))

add_each_type_follows : (slot : Slot) (row : ℕ) (types : List Tree) (w : Walk) (s : Told) → Agrees w s → KnowsRow w slot row
    → Follows w (numbers.add_each_type row types w) (names.add_each_type slot types s)
add_each_type_follows slot row [] w s agrees known = stays_here agrees
add_each_type_follows slot row (type ∷ types) w s agrees known =
    let first = add_type_follows agrees slot row known (text_of type) in
    follows_then first.1
    (add_each_type_follows slot row types (numbers.add_type row (text_of type) w) (names.add_type slot (text_of type) s) first.0 (row_still first.1 slot row known))

pub add_types_follows : {w : Walk} {s : Told} → Agrees w s → (node : Subject) (n : ℕ) → KnowsNode w node n → (types : List Tree) → Follows w (numbers.add_types n types w) (names.add_types node types s)
add_types_follows {w} {s} agrees node n known types = by (length types == 0)
  where
    by : (b : Bool) → Follows w (cond b w (numbers.add_each_type (row_number n (codes "@type") w) types (meet_row n (codes "@type") w)))
        (cond b s (names.add_each_type (node, codes "@type") types (tell (HasProperty (node, codes "@type")) s)))
    by true = stays_here agrees
    by false =
        let met = met_row agrees (node, codes "@type") n known in
        follows_then met.0.1
        (add_each_type_follows (node, codes "@type") (row_number n (codes "@type") w) types (meet_row n (codes "@type") w) (tell (HasProperty (node, codes "@type")) s) met.0.0 met.1)
