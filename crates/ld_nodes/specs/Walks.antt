-- What the code's walk has gathered, and what a single thing that it meets does to that: the same as in Told, with graphs,
-- nodes and properties of nodes spoken of by numbers.
use Rattle.std.specs.Prelude.{◌≡◌, ℕ, ◌+◌, ◌==◌, Bool, cond, List, [], ◌∷◌, ◌++◌, map, Option, None, Some, option_and_then, Result, Ok, Err, unwrap_or, length, codes, bytes_eq}
use Rattle.std.specs.Map.{lookup}
use Rattle.std.specs.BTreeMap.{insert_entry, is_at}
use Rattle.std.specs.Fmt.{decimal}
use Rattle.std.specs.Ordering.{nat_cmp, ordering_then}
use Rattle.std.specs.declared.cmp.Ordering.{Ordering}
use Rattle.ld_codes.specs.declared.code.Code.{Code}
use Rattle.ld_codes.specs.declared.code.Code.TheVariants as code
use Rattle.ld_iri.specs.Words.{is_blank}
use Rattle.ld_rec.specs.Words.{text_of, items_of}
use Rattle.ld_rec.specs.Kinds.{text_tree, list_of, map_of, one_entry, entries_of}
use Rattle.ld_rec.specs.declared.stop.Stop.{Stop}
use Rattle.ld_rec.specs.declared.stop.Stop.TheVariants as stop
use Rattle.ld_tree.specs.Maps as maps
use Rattle.ld_tree.specs.Names.{name_cmp}
use Rattle.ld_tree.specs.Trees.{member}
use Rattle.ld_tree.specs.declared.tree.Tree.{Tree, out-Tree}
use Rattle.ld_tree.specs.declared.tree.Tree.TheOpen.{Tree-F}
pub use Rattle.ld_nodes.specs.Names.{blank_name}
pub use Rattle.ld_nodes.specs.Told.{list_object, reference, text_in, types_in}
use Rattle.ld_nodes.specs.Places.{Name, Place, Nowhere, Row, Hand, ReverseMap, Reverse}
use Rattle.ld_nodes.specs.Tables.{Table, number_of, met}
use Rattle.ld_nodes.specs.declared.walk.Walker.{Walker}

-- a number and a name, by the number first
abbrev pub Key : Type 0
Key = ℕ × Name

abbrev pub key_cmp : Key → Key → Ordering
key_cmp a b = ordering_then (nat_cmp a.0 b.0) (name_cmp a.1 b.1)

pub record Walk : Type 0 where
  -- blank node identifiers met, with the numbers of the new ones
  pub names : Table Name
  -- how many new identifiers were given
  pub given : ℕ
  -- named graphs
  pub graphs : Table Name
  -- nodes, by the number of their graph and their identifier
  pub nodes : Table Key
  -- rows, by the number of their node and their property
  pub rows : Table Key
  -- the `@index` of nodes, by their numbers
  pub indexes : List (ℕ × Name)
  -- the values as they came, each with the number of its row
  pub values : List (ℕ × Tree)
  -- the list in hand
  pub hand : List Tree

-- what the maps of the code stand for
abbrev pub walk_of : Walker → Walk
walk_of w = record {
  names = w.names.entries;
  given = w.given;
  graphs = w.graphs.entries;
  nodes = w.nodes.entries;
  rows = w.rows.entries;
  indexes = w.indexes.entries;
  values = w.values.items;
  hand = w.hand;
}

-- a walk that goes on, or the code that ends it
abbrev pub Answer : Type 0
Answer = Result Walk Code

abbrev pub then_go : Answer → (Walk → Answer) → Answer
then_go (Ok w) go = go w
then_go (Err e) go = Err e

-- the walk has come where the definition says, or memory was wanting
abbrev pub Gives : Result (Unit {0}) Stop → Walk → Answer → Type 0
Gives (Ok done) w answer = answer ≡ Ok w
Gives (Err (stop.Code c)) w answer = answer ≡ Err c
Gives (Err stop.NoMemory) w answer = Unit {0}
Gives (Err (stop.Own own)) w answer = ⊥
Gives (Err (stop.Missing iri)) w answer = ⊥

-- ---- names

-- the next new identifier is given
abbrev pub give : Walk → Walk
give w = record w { given = w.given + 1 }

-- it is that of a blank node identifier
abbrev pub give_to : Name → Walk → Walk
give_to name w = record w { names = insert_entry name_cmp w.names name w.given; given = w.given + 1 }

abbrev pub number_given : Name → Walk → Option ℕ
number_given name w = lookup (is_at (name_cmp name)) w.names

-- a blank node identifier by its new name, and any other name as it is
abbrev pub new_name : Name → Walk → Name
new_name name w = cond (is_blank name) (blank_name (unwrap_or (number_given name w) w.given)) name

abbrev pub give_where : Option ℕ → Name → Walk → Walk
give_where None name w = give_to name w
give_where (Some number) name w = w

abbrev pub rename : Name → Walk → Walk
rename name w = cond (is_blank name) (give_where (number_given name w) name w) w

-- the identifier of a node that has this `@id`; one without gets the next new one
abbrev pub identifier : Option Name → Walk → Name
identifier None w = blank_name w.given
identifier (Some id) w = new_name id w

abbrev pub identify : Option Name → Walk → Walk
identify None w = give w
identify (Some id) w = rename id w

-- ---- graphs, nodes and rows

abbrev pub node_number : ℕ → Name → Walk → ℕ
node_number graph id w = number_of key_cmp w.nodes (graph, id)

abbrev pub meet_node : ℕ → Name → Walk → Walk
meet_node graph id w = record w { nodes = met key_cmp w.nodes (graph, id) }

-- the default graph has the number 0
abbrev pub graph_number : Name → Walk → ℕ
graph_number id w = number_of name_cmp w.graphs id + 1

abbrev pub meet_graph : Name → Walk → Walk
meet_graph id w = record w { graphs = met name_cmp w.graphs id }

abbrev pub row_number : ℕ → Name → Walk → ℕ
row_number node property w = number_of key_cmp w.rows (node, property)

abbrev pub meet_row : ℕ → Name → Walk → Walk
meet_row node property w = record w { rows = met key_cmp w.rows (node, property) }

-- ---- values

-- the value at its place; with no active subject, or as the other end of a reverse property, it is left out
abbrev pub put : Place → Tree → Walk → Walk
put Nowhere value w = w
put (Row row) value w = record w { values = w.values ++ (row, value) ∷ [] }
put Hand value w = record w { hand = w.hand ++ value ∷ [] }
put (ReverseMap subject) value w = w
put (Reverse subject property) value w = w

-- the node with the identifier and the number, as the place has it: under a reverse property the node gets a
-- reference to the subject, and else a reference to the node goes to the place
abbrev pub link : Place → Name → ℕ → Walk → Walk
link Nowhere id node w = put Nowhere (reference id) w
link (Row row) id node w = put (Row row) (reference id) w
link Hand id node w = put Hand (reference id) w
link (ReverseMap subject) id node w = put (ReverseMap subject) (reference id) w
link (Reverse subject property) id node w = put (Row (row_number node property w)) (reference subject) (meet_row node property w)

-- ---- types

abbrev pub rename_text : Option Name → Walk → Walk
rename_text None w = w
rename_text (Some name) w = rename name w

-- the types of an element get their new names
abbrev pub rename_each : List Tree → Walk → Walk
rename_each [] w = w
rename_each (type ∷ types) w = rename_each types (rename_text (text_of type) w)

-- a type by its new name
abbrev pub new_type_of : Option Name → Tree → Walk → Tree
new_type_of None type w = type
new_type_of (Some name) type w = text_tree (new_name name w)

abbrev pub new_type : Walk → Tree → Tree
new_type w type = new_type_of (text_of type) type w

-- one type, or several
abbrev pub new_types_of : Tree-F Tree → Tree → Walk → Tree
new_types_of (Tree-F.List types) tree w = list_of (map (new_type w) types)
new_types_of _ tree w = new_type w tree

abbrev pub new_types : Tree → Walk → Tree
new_types types w = new_types_of (out-Tree types) types w

-- a value object, its types by their new names
abbrev pub new_value_of : Option Tree → Tree → Walk → Tree
new_value_of None value w = value
new_value_of (Some types) value w = map_of (maps.put (entries_of value) (codes "@type") (new_types types w))

abbrev pub new_value : Tree → Walk → Tree
new_value value w = new_value_of (member (codes "@type") value) value w

-- a type of a node
abbrev pub add_type : ℕ → Option Name → Walk → Walk
add_type row None w = w
add_type row (Some name) w = put (Row row) (text_tree (new_name name w)) (rename name w)

abbrev pub add_each_type : ℕ → List Tree → Walk → Walk
add_each_type row [] w = w
add_each_type row (type ∷ types) w = add_each_type row types (add_type row (text_of type) w)

-- the types of a node; none make no row
abbrev pub add_types : ℕ → List Tree → Walk → Walk
add_types node types w = cond (length types == 0) w (add_each_type (row_number node (codes "@type") w) types (meet_row node (codes "@type") w))

-- ---- indexes

-- the index of a node, beside the one that it has
abbrev pub index_beside : Option Name → Name → ℕ → Walk → Answer
index_beside None index node w = Ok (record w { indexes = insert_entry nat_cmp w.indexes node index })
index_beside (Some other) index node w = cond (bytes_eq other index) (Ok w) (Err code.ConflictingIndexes)

abbrev pub add_index : Option Name → ℕ → Walk → Answer
add_index None node w = Ok w
add_index (Some index) node w = index_beside (lookup (is_at (nat_cmp node)) w.indexes) index node w

-- nothing met
abbrev pub start : Walk
start = record { names = []; given = 0; graphs = []; nodes = []; rows = []; indexes = []; values = []; hand = [] }
