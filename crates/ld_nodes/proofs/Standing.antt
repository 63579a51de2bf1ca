-- What the numbers of a walk stand for, and the facts behind its tables.
use Rattle.std.proofs.Common.{◌≡◌, ◌∙◌, ◌+◌, ◌<◌, ◌++◌, refl, sym, ap, ap₂, subst, ℕ, Bool, true, false, ◌||◌, ◌&&◌, List, [], ◌∷◌, length, map, eqb, ◌⊎◌, inl, inr, Option, None, Some, arith, true≢false, append_assoc, append-nil}
use Rattle.std.specs.Prelude.{cond, option_map, not}
use Rattle.std.proofs.lemmas.Bool.Decides.{eqb_tells}
use Rattle.std.proofs.lemmas.List.Folds.{list_any-append}
use Rattle.std.proofs.lemmas.Map.Lookups.{exact_bytes, exact_unsigned}
use Rattle.std.proofs.lemmas.Cmp.{nat_cmp_total, nat_list_cmp_total}
use Rattle.std.specs.Cmp.{IsTotalOrder, nat_cmp_is, tied_then}
use Rattle.std.specs.List.{list_any}
use Rattle.std.specs.Str.{bytes_eq}
use Rattle.std.specs.Cmp.Lexicographic.{nat_list_eq_equiv, same_text}
use Rattle.std.specs.Map.{lookup}
use Rattle.std.specs.BTreeMap.{insert_entry, is_at}
use Rattle.std.specs.Ordering.{is_eq, match_ordering, nat_cmp, ordering_reverse}
use Rattle.std.specs.declared.cmp.Ordering.{Ordering}
use Rattle.std.specs.declared.cmp.Ordering.TheVariants.{Less, Equal, Greater}
use Rattle.ld_iri.proofs.Segments.{bytes_unlike}
use Rattle.ld_group.specs.Firsts.{Numbered, firsts, is_list_object, is_same, numbered_cmp, stays as value_stays}
use Rattle.ld_group.proofs.More.{firsts_more}
use Rattle.ld_tree.specs.Names.{name_cmp}
use Rattle.ld_tree.specs.declared.tree.Tree.{Tree}
use Rattle.ld_tree.specs.contracts.tree.TreeOrd.TheImpl as order
use Rattle.ld_nodes.specs.Names.{Graph, Name, Slot, Subject, blank_name, is_graph, is_slot, is_subject}
use Rattle.ld_nodes.specs.NodeMap.{ids_in, is_added, is_told, properties_of, values_of, with_name}
use Rattle.ld_nodes.specs.Tables.{Table, met, number_of}
use Rattle.ld_nodes.specs.Told.{Fact, Told, HasIndex, HasProperty, HasValue, IsNode, index_of}
use Rattle.ld_nodes.specs.Walks.{Key, Walk, key_cmp}
use Rattle.ld_nodes.proofs.Numbered.{IsSorted, items_with, key_total, names_put, names_with, same_key, sorted_insert, sorted_none}
use Rattle.ld_nodes.proofs.Telling.{Tells, tells_met, tells_none}

-- ---- which number stands for what

abbrev pub KnowsGraph : Table Name → Graph → ℕ → Type 0
KnowsGraph graphs None n = n ≡ 0
KnowsGraph graphs (Some name) n = (m : ℕ) × (lookup (is_at (name_cmp name)) graphs ≡ Some m) × (n ≡ m + 1)

pub record KnowsNode (w : Walk) (node : Subject) (n : ℕ) : Type 0 where
  pub graph : ℕ
  pub knows : KnowsGraph w.graphs node.0 graph
  pub found : lookup (is_at (key_cmp (graph, node.1))) w.nodes ≡ Some n

pub record KnowsRow (w : Walk) (slot : Slot) (n : ℕ) : Type 0 where
  pub node : ℕ
  pub knows : KnowsNode w slot.0 node
  pub found : lookup (is_at (key_cmp (node, slot.1))) w.rows ≡ Some n

-- what was found is found still
pub record Extends (w v : Walk) : Type 0 where
  pub graphs : (name : Name) (n : ℕ) → lookup (is_at (name_cmp name)) w.graphs ≡ Some n → lookup (is_at (name_cmp name)) v.graphs ≡ Some n
  pub nodes : (key : Key) (n : ℕ) → lookup (is_at (key_cmp key)) w.nodes ≡ Some n → lookup (is_at (key_cmp key)) v.nodes ≡ Some n
  pub rows : (key : Key) (n : ℕ) → lookup (is_at (key_cmp key)) w.rows ≡ Some n → lookup (is_at (key_cmp key)) v.rows ≡ Some n

pub extends_then : {w v u : Walk} → Extends w v → Extends v u → Extends w u
extends_then h k = record {
  graphs = λ name n e. k.graphs name n (h.graphs name n e);
  nodes = λ key n e. k.nodes key n (h.nodes key n e);
  rows = λ key n e. k.rows key n (h.rows key n e);
}

module _ {w v : Walk} (more : Extends w v) where
  pub graph_still : (graph : Graph) (n : ℕ) → KnowsGraph w.graphs graph n → KnowsGraph v.graphs graph n
  graph_still None n h = h
  graph_still (Some name) n h = (h.0, more.graphs name h.0 h.1, h.2)

  pub node_still : (node : Subject) (n : ℕ) → KnowsNode w node n → KnowsNode v node n
  node_still node n h = record { graph = h.graph; knows = graph_still node.0 h.graph h.knows; found = more.nodes (h.graph, node.1) n h.found }

  pub row_still : (slot : Slot) (n : ℕ) → KnowsRow w slot n → KnowsRow v slot n
  row_still slot n h = record { node = h.node; knows = node_still slot.0 h.node h.knows; found = more.rows (h.node, slot.1) n h.found }

-- ---- the facts behind the tables

-- the facts, and for each the key or the value with the number that stands for what it speaks of
pub data Stands (w : Walk) : List Fact → List Key → List Key → List Numbered → List (ℕ × Name) → Type 0 where
  no_fact : Stands w [] [] [] [] []
  stands_node : (facts : List Fact) (nodes rows : List Key) (values : List Numbered) (indexes : List (ℕ × Name)) → Stands w facts nodes rows values indexes
      → (node : Subject) (graph : ℕ) → KnowsGraph w.graphs node.0 graph → Stands w (IsNode node ∷ facts) ((graph, node.1) ∷ nodes) rows values indexes
  stands_property : (facts : List Fact) (nodes rows : List Key) (values : List Numbered) (indexes : List (ℕ × Name)) → Stands w facts nodes rows values indexes
      → (slot : Slot) (node : ℕ) → KnowsNode w slot.0 node → Stands w (HasProperty slot ∷ facts) nodes ((node, slot.1) ∷ rows) values indexes
  stands_value : (facts : List Fact) (nodes rows : List Key) (values : List Numbered) (indexes : List (ℕ × Name)) → Stands w facts nodes rows values indexes
      → (slot : Slot) (value : Tree) (row : ℕ) → KnowsRow w slot row → Stands w (HasValue slot value ∷ facts) nodes rows ((row, value) ∷ values) indexes
  stands_index : (facts : List Fact) (nodes rows : List Key) (values : List Numbered) (indexes : List (ℕ × Name)) → Stands w facts nodes rows values indexes
      → (node : Subject) (index : Name) (n : ℕ) → KnowsNode w node n → Stands w (HasIndex node index ∷ facts) nodes rows values ((n, index) ∷ indexes)

pub stands_still : {w v : Walk} → Extends w v → (facts : List Fact) (nodes rows : List Key) (values : List Numbered) (indexes : List (ℕ × Name))
    → Stands w facts nodes rows values indexes → Stands v facts nodes rows values indexes
stands_still more facts nodes rows values indexes no_fact = no_fact
stands_still more facts nodes rows values indexes (stands_node fs ns rs vs is h node graph known) =
    stands_node fs ns rs vs is (stands_still more fs ns rs vs is h) node graph (graph_still more node.0 graph known)
stands_still more facts nodes rows values indexes (stands_property fs ns rs vs is h slot node known) =
    stands_property fs ns rs vs is (stands_still more fs ns rs vs is h) slot node (node_still more slot.0 node known)
stands_still more facts nodes rows values indexes (stands_value fs ns rs vs is h slot value row known) =
    stands_value fs ns rs vs is (stands_still more fs ns rs vs is h) slot value row (row_still more slot row known)
stands_still more facts nodes rows values indexes (stands_index fs ns rs vs is h node index n known) =
    stands_index fs ns rs vs is (stands_still more fs ns rs vs is h) node index n (node_still more node n known)

-- the latest is first
abbrev pub met_all : List Key → Table Key
met_all [] = []
met_all (key ∷ keys) = met key_cmp (met_all keys) key

abbrev pub in_turn : List Numbered → List Numbered
in_turn [] = []
in_turn (value ∷ values) = in_turn values ++ value ∷ []

abbrev pub put_all : List (ℕ × Name) → List (ℕ × Name)
put_all [] = []
put_all (e ∷ es) = insert_entry nat_cmp (put_all es) e.0 e.1

-- the walk has just what was told
pub record Agrees (w : Walk) (s : Told) : Type 0 where
  pub given : w.given ≡ s.given
  pub hand : w.hand ≡ s.hand
  pub names : (name : Name) → lookup (bytes_eq name) s.names ≡ option_map blank_name (lookup (is_at (name_cmp name)) w.names)
  pub graphs_tell : Tells name_cmp w.graphs
  pub node_keys : List Key
  pub row_keys : List Key
  pub values : List Numbered
  pub indexes : List (ℕ × Name)
  pub stands : Stands w s.facts node_keys row_keys values indexes
  pub nodes_are : w.nodes ≡ met_all node_keys
  pub rows_are : w.rows ≡ met_all row_keys
  pub values_are : w.values ≡ in_turn values
  pub indexes_are : w.indexes ≡ put_all indexes

pub all_sorted : (keys : List Key) → IsSorted (met_all keys)
all_sorted [] = sorted_none
all_sorted (key ∷ keys) = sorted_insert key_total key (number_of key_cmp (met_all keys) key) (met_all keys) (all_sorted keys)

pub all_tell : (keys : List Key) → Tells key_cmp (met_all keys)
all_tell [] = tells_none key_total
all_tell (key ∷ keys) = tells_met key_total (met_all keys) (all_tell keys) key

-- ---- numbers tell apart what they stand for

module _ {w : Walk} {s : Told} (agrees : Agrees w s) where
  one_of : (o : Option ℕ) (m n : ℕ) → o ≡ Some m → o ≡ Some n → m ≡ n
  one_of o m n e f = let both : Some m ≡ Some n = sym e ∙ f in cc

  pub graph_once : (graph : Graph) (m n : ℕ) → KnowsGraph w.graphs graph m → KnowsGraph w.graphs graph n → m ≡ n
  graph_once None m n h k = h ∙ sym k
  graph_once (Some name) m n h k = h.2 ∙ ap (λ (i : ℕ). i + 1) (one_of _ h.0 k.0 h.1 k.1) ∙ sym k.2

  pub graph_apart : (a b : Graph) (n : ℕ) → KnowsGraph w.graphs a n → KnowsGraph w.graphs b n → a ≡ b
  graph_apart None None n h k = refl
  graph_apart None (Some name) n h k = absurd (omega (arith, h, k.2))
  graph_apart (Some name) None n h k = absurd (omega (arith, k, h.2))
  graph_apart (Some a) (Some b) n h k =
      let same : h.0 ≡ k.0 = omega (arith, h.2, k.2) in
      ap (λ (x : Name). Some x) (exact_bytes a b (agrees.graphs_tell.apart a b h.0 h.1 (k.1 ∙ ap (λ (i : ℕ). Some i) (sym same))))

  nodes_tell : Tells key_cmp w.nodes
  nodes_tell = subst (λ t. Tells key_cmp t) (sym agrees.nodes_are) (all_tell agrees.node_keys)

  rows_tell : Tells key_cmp w.rows
  rows_tell = subst (λ t. Tells key_cmp t) (sym agrees.rows_are) (all_tell agrees.row_keys)

  pub node_once : (node : Subject) (m n : ℕ) → KnowsNode w node m → KnowsNode w node n → m ≡ n
  node_once node m n h k =
      one_of _ m n h.found (ap (λ g. lookup (is_at (key_cmp (g, node.1))) w.nodes) (graph_once node.0 h.graph k.graph h.knows k.knows) ∙ k.found)

  pub node_apart : (a b : Subject) (n : ℕ) → KnowsNode w a n → KnowsNode w b n → a ≡ b
  node_apart a b n h k =
      let same = same_key (h.graph, a.1) (k.graph, b.1) (nodes_tell.apart (h.graph, a.1) (k.graph, b.1) n h.found k.found) in
      let graph = graph_apart a.0 b.0 h.graph h.knows (subst (λ g. KnowsGraph w.graphs b.0 g) (sym same.0) k.knows) in
      ap₂ (λ (g : Graph) (i : Name). let node : Subject = (g, i) in node) graph same.1

  pub row_apart : (a b : Slot) (n : ℕ) → KnowsRow w a n → KnowsRow w b n → a ≡ b
  row_apart a b n h k =
      let same = same_key (h.node, a.1) (k.node, b.1) (rows_tell.apart (h.node, a.1) (k.node, b.1) n h.found k.found) in
      let node = node_apart a.0 b.0 h.node h.knows (subst (λ g. KnowsNode w b.0 g) (sym same.0) k.knows) in
      ap₂ (λ (g : Subject) (i : Name). let slot : Slot = (g, i) in slot) node same.1

  pub row_once : (slot : Slot) (m n : ℕ) → KnowsRow w slot m → KnowsRow w slot n → m ≡ n
  row_once slot m n h k = one_of _ m n h.found (ap (λ g. lookup (is_at (key_cmp (g, slot.1))) w.rows) (node_once slot.0 h.node k.node h.knows k.knows) ∙ k.found)

  pub node_below : (node : Subject) (n : ℕ) → KnowsNode w node n → n < length w.nodes
  node_below node n h = nodes_tell.below (h.graph, node.1) n h.found

  pub row_below : (slot : Slot) (n : ℕ) → KnowsRow w slot n → n < length w.rows
  row_below slot n h = rows_tell.below (h.node, slot.1) n h.found

  pub graph_below : (graph : Graph) (n : ℕ) → KnowsGraph w.graphs graph n → n < length w.graphs + 1
  graph_below None n h = omega (arith, h)
  graph_below (Some name) n h = let less = agrees.graphs_tell.below name h.0 h.1 in omega (arith, less, h.2)

-- ---- the tests by names are those by numbers

and_true : (a b : Bool) → (a && b) ≡ true → (a ≡ true) × (b ≡ true)
and_true true b e = (refl, e)
and_true false b e = absurd (true≢false (sym e))

graph_true : (a b : Graph) → is_graph a b ≡ true → a ≡ b
graph_true None None e = refl
graph_true None (Some b) e = absurd (true≢false (sym e))
graph_true (Some a) None e = absurd (true≢false (sym e))
graph_true (Some a) (Some b) e = ap (λ (x : Name). Some x) (same_text a b (sym e))

graph_self : (a : Graph) → is_graph a a ≡ true
graph_self None = refl
graph_self (Some a) = nat_list_eq_equiv.refl a

subject_true : (a b : Subject) → is_subject a b ≡ true → a ≡ b
subject_true a b e =
    let parts = and_true (is_graph a.0 b.0) (bytes_eq a.1 b.1) e in
    ap₂ (λ (g : Graph) (i : Name). let node : Subject = (g, i) in node) (graph_true a.0 b.0 parts.0) (same_text a.1 b.1 (sym parts.1))

pub subject_self : (a : Subject) → is_subject a a ≡ true
subject_self a = ap₂ (λ x y. x && y) (graph_self a.0) (nat_list_eq_equiv.refl a.1)

slot_true : (a b : Slot) → is_slot a b ≡ true → a ≡ b
slot_true a b e =
    let parts = and_true (is_subject a.0 b.0) (bytes_eq a.1 b.1) e in
    ap₂ (λ (g : Subject) (i : Name). let slot : Slot = (g, i) in slot) (subject_true a.0 b.0 parts.0) (same_text a.1 b.1 (sym parts.1))

slot_self : (a : Slot) → is_slot a a ≡ true
slot_self a = ap₂ (λ x y. x && y) (subject_self a.0) (nat_list_eq_equiv.refl a.1)

tested : (m n : ℕ) (b : Bool) → (m ≡ n → b ≡ true) → (b ≡ true → m ≡ n) → eqb m n ≡ b
tested m n true h k = elim (eqb_tells m n) [ inl alike ↦ alike.0 | inr unlike ↦ absurd (unlike.1 (k refl)) ]
tested m n false h k = elim (eqb_tells m n) [ inl alike ↦ absurd (true≢false (sym (h alike.1))) | inr unlike ↦ unlike.0 ]

is_eq_nat : (m n : ℕ) → is_eq (nat_cmp m n) ≡ eqb m n
is_eq_nat m n = by (nat_cmp m n) refl
  where
    by : (o : Ordering) → nat_cmp m n ≡ o → is_eq o ≡ eqb m n
    by Less e = elim (eqb_tells m n) [ inl alike ↦ absurd (let bad : Less ≡ Equal = sym e ∙ sym (nat_cmp_is m n Equal alike.1) in cc) | inr unlike ↦ sym unlike.0 ]
    by Equal e = elim (eqb_tells m n) [ inl alike ↦ sym alike.0 | inr unlike ↦ absurd (unlike.1 (exact_unsigned m n e)) ]
    by Greater e = elim (eqb_tells m n) [ inl alike ↦ absurd (let bad : Greater ≡ Equal = sym e ∙ sym (nat_cmp_is m n Equal alike.1) in cc) | inr unlike ↦ sym unlike.0 ]

eqb_turned : (m n : ℕ) → eqb m n ≡ eqb n m
eqb_turned m n = elim (eqb_tells m n) [
  | inl alike ↦ ap₂ eqb alike.1 (sym alike.1)
  | inr unlike ↦ elim (eqb_tells n m) [ inl alike ↦ absurd (unlike.1 (sym alike.1)) | inr other ↦ unlike.0 ∙ sym other.0 ]
]

module _ {w : Walk} {s : Told} (agrees : Agrees w s) where
  pub same_graph : (a b : Graph) (m n : ℕ) → KnowsGraph w.graphs a m → KnowsGraph w.graphs b n → eqb m n ≡ is_graph a b
  same_graph a b m n h k =
      tested m n (is_graph a b) (λ e. ap (is_graph a) (sym (graph_apart agrees a b m h (subst (λ i. KnowsGraph w.graphs b i) (sym e) k))) ∙ graph_self a)
      (λ t. graph_once agrees a m n h (subst (λ g. KnowsGraph w.graphs g n) (sym (graph_true a b t)) k))

  pub same_node : (a b : Subject) (m n : ℕ) → KnowsNode w a m → KnowsNode w b n → eqb m n ≡ is_subject a b
  same_node a b m n h k =
      tested m n (is_subject a b) (λ e. ap (is_subject a) (sym (node_apart agrees a b m h (subst (λ i. KnowsNode w b i) (sym e) k))) ∙ subject_self a)
      (λ t. node_once agrees a m n h (subst (λ g. KnowsNode w g n) (sym (subject_true a b t)) k))

  pub same_row : (a b : Slot) (m n : ℕ) → KnowsRow w a m → KnowsRow w b n → eqb m n ≡ is_slot a b
  same_row a b m n h k =
      tested m n (is_slot a b) (λ e. ap (is_slot a) (sym (row_apart agrees a b m h (subst (λ i. KnowsRow w b i) (sym e) k))) ∙ slot_self a)
      (λ t. row_once agrees a m n h (subst (λ g. KnowsRow w g n) (sym (slot_true a b t)) k))

  -- ---- what stands under a number is what is told of what it stands for

  pub names_of_graph : (graph : Graph) (n : ℕ) → KnowsGraph w.graphs graph n → (facts : List Fact) (nodes rows : List Key) (values : List Numbered) (indexes : List (ℕ × Name))
      → Stands w facts nodes rows values indexes → names_with n (met_all nodes) ≡ ids_in graph facts
  names_of_graph graph n known facts nodes rows values indexes no_fact = refl
  names_of_graph graph n known facts nodes rows values indexes (stands_node fs ns rs vs is h node g knows) =
      names_put g node.1 (number_of key_cmp (met_all ns) (g, node.1)) (met_all ns) (all_sorted ns) n
      ∙ ap₂ (λ (b : Bool) (l : List Name). cond b (with_name node.1 l) l) (same_graph node.0 graph g n knows known) (names_of_graph graph n known fs ns rs vs is h)
  names_of_graph graph n known facts nodes rows values indexes (stands_property fs ns rs vs is h slot node knows) = names_of_graph graph n known fs ns rs vs is h
  names_of_graph graph n known facts nodes rows values indexes (stands_value fs ns rs vs is h slot value row knows) = names_of_graph graph n known fs ns rs vs is h
  names_of_graph graph n known facts nodes rows values indexes (stands_index fs ns rs vs is h node index m knows) = names_of_graph graph n known fs ns rs vs is h

  pub names_of_node : (node : Subject) (n : ℕ) → KnowsNode w node n → (facts : List Fact) (nodes rows : List Key) (values : List Numbered) (indexes : List (ℕ × Name))
      → Stands w facts nodes rows values indexes → names_with n (met_all rows) ≡ properties_of node facts
  names_of_node node n known facts nodes rows values indexes no_fact = refl
  names_of_node node n known facts nodes rows values indexes (stands_node fs ns rs vs is h other g knows) = names_of_node node n known fs ns rs vs is h
  names_of_node node n known facts nodes rows values indexes (stands_property fs ns rs vs is h slot m knows) =
      names_put m slot.1 (number_of key_cmp (met_all rs) (m, slot.1)) (met_all rs) (all_sorted rs) n
      ∙ ap₂ (λ (b : Bool) (l : List Name). cond b (with_name slot.1 l) l) (same_node slot.0 node m n knows known) (names_of_node node n known fs ns rs vs is h)
  names_of_node node n known facts nodes rows values indexes (stands_value fs ns rs vs is h slot value row knows) = names_of_node node n known fs ns rs vs is h
  names_of_node node n known facts nodes rows values indexes (stands_index fs ns rs vs is h other index m knows) = names_of_node node n known fs ns rs vs is h

  -- a graph that has no number has no node
  pub no_names : (name : Name) → lookup (is_at (name_cmp name)) w.graphs ≡ None → (facts : List Fact) (nodes rows : List Key) (values : List Numbered) (indexes : List (ℕ × Name))
      → Stands w facts nodes rows values indexes → ids_in (Some name) facts ≡ []
  no_names name none facts nodes rows values indexes no_fact = refl
  no_names name none facts nodes rows values indexes (stands_node fs ns rs vs is h node g knows) =
      ap₂ (λ (b : Bool) (l : List Name). cond b (with_name node.1 l) l) (another (is_graph node.0 (Some name)) refl) (no_names name none fs ns rs vs is h)
    where
      another : (b : Bool) → is_graph node.0 (Some name) ≡ b → is_graph node.0 (Some name) ≡ false
      another false e = e
      another true e =
          let there = subst (λ a. KnowsGraph w.graphs a g) (graph_true node.0 (Some name) e) knows in
          absurd (let bad : Some there.0 ≡ None = sym there.1 ∙ none in cc)
  no_names name none facts nodes rows values indexes (stands_property fs ns rs vs is h slot node knows) = no_names name none fs ns rs vs is h
  no_names name none facts nodes rows values indexes (stands_value fs ns rs vs is h slot value row knows) = no_names name none fs ns rs vs is h
  no_names name none facts nodes rows values indexes (stands_index fs ns rs vs is h node index m knows) = no_names name none fs ns rs vs is h

-- ---- indexes

module _ {K V : Type 0} {cmp : K → K → Ordering} (total : IsTotalOrder cmp) (key : K) (v : V) (q : K) where
  abbrev seen : Ordering → List (K × V) → Option V
  seen p es = cond (is_eq p) (Some v) (lookup (is_at (cmp q)) es)

  both_conds : (b : Bool) (x y z : Option V) → cond b x z ≡ cond b x (cond b y z)
  both_conds true x y z = refl
  both_conds false x y z = refl

  past : (e : K × V) (es : List (K × V)) (p : Ordering) → cmp q key ≡ p → cmp key e.0 ≡ Greater → cond (is_eq (cmp q e.0)) (Some e.1) (seen p es) ≡ seen p (e ∷ es)
  past e es Less is order = refl
  past e es Equal is order = ap (λ o. cond (is_eq o) (Some e.1) (Some v)) (total.congr q key e.0 is ∙ order)
  past e es Greater is order = refl

  head : (e : K × V) (es : List (K × V)) (o : Ordering) → cmp key e.0 ≡ o → lookup (is_at (cmp q)) (insert_entry cmp es key v) ≡ seen (cmp q key) es
      → lookup (is_at (cmp q)) (match_ordering o ((key, v) ∷ e ∷ es) ((e.0, v) ∷ es) (e ∷ insert_entry cmp es key v)) ≡ seen (cmp q key) (e ∷ es)
  head e es Less is rest = refl
  head e es Equal is rest =
      both_conds (is_eq (cmp q e.0)) (Some v) (Some e.1) (lookup (is_at (cmp q)) es)
      ∙ ap (λ p. seen p (e ∷ es)) (total.antisymm q e.0 ∙ ap ordering_reverse (sym (total.congr key e.0 q is)) ∙ sym (total.antisymm q key))
  head e es Greater is rest = ap (λ (r : Option V). cond (is_eq (cmp q e.0)) (Some e.1) r) rest ∙ past e es (cmp q key) refl is

  -- what a query finds where an entry was put
  pub found_put : (es : List (K × V)) → lookup (is_at (cmp q)) (insert_entry cmp es key v) ≡ cond (is_eq (cmp q key)) (Some v) (lookup (is_at (cmp q)) es)
  found_put [] = refl
  found_put (e ∷ es) = head e es (cmp key e.0) refl (found_put es)

module _ {w : Walk} {s : Told} (agrees : Agrees w s) where
  pub index_told : (node : Subject) (n : ℕ) → KnowsNode w node n → (facts : List Fact) (nodes rows : List Key) (values : List Numbered) (indexes : List (ℕ × Name))
      → Stands w facts nodes rows values indexes → lookup (is_at (nat_cmp n)) (put_all indexes) ≡ index_of node facts
  index_told node n known facts nodes rows values indexes no_fact = refl
  index_told node n known facts nodes rows values indexes (stands_node fs ns rs vs is h other g knows) = index_told node n known fs ns rs vs is h
  index_told node n known facts nodes rows values indexes (stands_property fs ns rs vs is h slot m knows) = index_told node n known fs ns rs vs is h
  index_told node n known facts nodes rows values indexes (stands_value fs ns rs vs is h slot value row knows) = index_told node n known fs ns rs vs is h
  index_told node n known facts nodes rows values indexes (stands_index fs ns rs vs is h other index m knows) =
      found_put nat_cmp_total m index n (put_all is)
      ∙ ap₂ (λ (b : Bool) (o : Option Name). cond b (Some index) o) (is_eq_nat n m ∙ eqb_turned n m ∙ same_node agrees other node m n knows known)
      (index_told node n known fs ns rs vs is h)

  -- ---- values

  or_false : (b c : Bool) → (b || (c || false)) ≡ (b || c)
  or_false b true = refl
  or_false b false = refl

  is_same_numbered : (m n : ℕ) (a b : Tree) → is_same (m, a) (n, b) ≡ (eqb m n && is_eq (order.ghosts.cmp a b))
  is_same_numbered m n a b = sym (tied_then (nat_cmp m n) (order.ghosts.cmp a b)) ∙ ap (λ x. x && is_eq (order.ghosts.cmp a b)) (is_eq_nat m n)

  told_by_number : (slot : Slot) (n : ℕ) → KnowsRow w slot n → (value : Tree) (facts : List Fact) (nodes rows : List Key) (values : List Numbered) (indexes : List (ℕ × Name))
      → Stands w facts nodes rows values indexes → list_any (λ b. is_same b (n, value)) (in_turn values) ≡ is_told slot value facts
  told_by_number slot n known value facts nodes rows values indexes no_fact = refl
  told_by_number slot n known value facts nodes rows values indexes (stands_node fs ns rs vs is h other g knows) = told_by_number slot n known value fs ns rs vs is h
  told_by_number slot n known value facts nodes rows values indexes (stands_property fs ns rs vs is h other m knows) = told_by_number slot n known value fs ns rs vs is h
  told_by_number slot n known value facts nodes rows values indexes (stands_value fs ns rs vs is h other seen m knows) =
      list_any-append (λ b. is_same b (n, value)) (in_turn vs) ((m, seen) ∷ [])
      ∙ ap₂ (λ x y. x || (y || false)) (told_by_number slot n known value fs ns rs vs is h)
      (is_same_numbered m n seen value ∙ ap (λ x. x && is_eq (order.ghosts.cmp seen value)) (same_row agrees other slot m n knows known))
      ∙ or_false (is_told slot value fs) (is_slot other slot && is_eq (order.ghosts.cmp seen value))
  told_by_number slot n known value facts nodes rows values indexes (stands_index fs ns rs vs is h other index m knows) = told_by_number slot n known value fs ns rs vs is h

  items_append : (n : ℕ) (xs ys : List Numbered) → items_with n (xs ++ ys) ≡ items_with n xs ++ items_with n ys
  items_append n [] ys = refl
  items_append n (x ∷ xs) ys = one (eqb x.0 n) (items_append n xs ys)
    where
      one : (b : Bool) → items_with n (xs ++ ys) ≡ items_with n xs ++ items_with n ys
          → cond b (x.1 ∷ items_with n (xs ++ ys)) (items_with n (xs ++ ys)) ≡ cond b (x.1 ∷ items_with n xs) (items_with n xs) ++ items_with n ys
      one true rest = ap (λ (l : List Tree). x.1 ∷ l) rest
      one false rest = rest

  one_more : (m n : ℕ) (value : Tree) (kept : List Tree) (mark : Bool) → kept ++ items_with n (cond mark ((m, value) ∷ []) []) ≡ cond (eqb m n && mark) (kept ++ value ∷ []) kept
  one_more m n value kept false = append-nil kept ∙ ap (λ (b : Bool). cond b (kept ++ value ∷ []) kept) (sym (and_false (eqb m n)))
    where
      and_false : (b : Bool) → (b && false) ≡ false
      and_false true = refl
      and_false false = refl
  one_more m n value kept true = by (eqb m n)
    where
      by : (b : Bool) → kept ++ cond b (value ∷ []) [] ≡ cond (b && true) (kept ++ value ∷ []) kept
      by true = refl
      by false = append-nil kept

  pub values_told : (slot : Slot) (n : ℕ) → KnowsRow w slot n → (facts : List Fact) (nodes rows : List Key) (values : List Numbered) (indexes : List (ℕ × Name))
      → Stands w facts nodes rows values indexes → items_with n (firsts (in_turn values)) ≡ values_of slot facts
  values_told slot n known facts nodes rows values indexes no_fact = refl
  values_told slot n known facts nodes rows values indexes (stands_node fs ns rs vs is h other g knows) = values_told slot n known fs ns rs vs is h
  values_told slot n known facts nodes rows values indexes (stands_property fs ns rs vs is h other m knows) = values_told slot n known fs ns rs vs is h
  values_told slot n known facts nodes rows values indexes (stands_value fs ns rs vs is h other value m knows) =
      let kept = values_told slot n known fs ns rs vs is h in
      ap (items_with n) (firsts_more (in_turn vs) (m, value))
      ∙ items_append n (firsts (in_turn vs)) (cond (value_stays (in_turn vs) (m, value)) ((m, value) ∷ []) [])
      ∙ one_more m n value (items_with n (firsts (in_turn vs))) (value_stays (in_turn vs) (m, value))
      ∙ (λ i. cond (same_row agrees other slot m n knows known i && (not (told_by_number other m knows value fs ns rs vs is h i) || is_list_object value)) (kept i ++ value ∷ []) (kept i))
  values_told slot n known facts nodes rows values indexes (stands_index fs ns rs vs is h other index m knows) = values_told slot n known fs ns rs vs is h
