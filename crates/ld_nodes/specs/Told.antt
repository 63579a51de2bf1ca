-- What a walk over an expanded document has told of its nodes (JSON-LD 1.1 API, 7.2), and what a single thing that it meets
-- adds to that. Graphs, nodes and properties go by their names.
use Rattle.std.specs.Prelude.{ℕ, ◌+◌, ◌==◌, Bool, cond, List, [], ◌∷◌, ◌++◌, map, Option, None, Some, option_and_then, Result, Ok, Err, unwrap_or, length, codes, bytes_eq}
use Rattle.std.specs.Map.{lookup}
use Rattle.ld_codes.specs.declared.code.Code.{Code}
use Rattle.ld_codes.specs.declared.code.Code.TheVariants as code
use Rattle.ld_iri.specs.Words.{is_blank}
use Rattle.ld_rec.specs.Kinds.{entries_of, list_of, map_of, one_entry, text_tree}
use Rattle.ld_rec.specs.Words.{items_of, text_of}
use Rattle.ld_tree.specs.Maps.{put}
use Rattle.ld_tree.specs.Trees.{member}
use Rattle.ld_tree.specs.declared.tree.Tree.{Tree, out-Tree}
use Rattle.ld_tree.specs.declared.tree.Tree.TheOpen.{Tree-F}
use Rattle.ld_nodes.specs.Names.{Name, Slot, Subject, blank_name, is_subject}

-- what is told
pub data Fact : Type 0 where
  -- the node is there
  IsNode : Subject → Fact
  -- the node has the property, if only with the empty array
  HasProperty : Slot → Fact
  -- the property has the value
  HasValue : Slot → Tree → Fact
  -- the node has the `@index`
  HasIndex : Subject → Name → Fact

pub record Told : Type 0 where
  -- the blank node identifiers that were met, each with its new one; the latest is first
  pub names : List (Name × Name)
  -- how many new identifiers were given
  pub given : ℕ
  -- the latest is first
  pub facts : List Fact
  -- the list in hand
  pub hand : List Tree

-- more is told, or there is a code
abbrev pub Telling : Type 0
Telling = Result Told Code

abbrev pub then_on : Telling → (Told → Telling) → Telling
then_on (Ok s) go = go s
then_on (Err e) go = Err e

abbrev pub tell : Fact → Told → Told
tell fact s = record s { facts = fact ∷ s.facts }

-- ---- names (7.4)

abbrev pub known_name : Name → Told → Option Name
known_name name s = lookup (bytes_eq name) s.names

-- the next new identifier is given
abbrev pub give : Told → Told
give s = record s { given = s.given + 1 }

-- it is that of a blank node identifier
abbrev pub give_to : Name → Told → Told
give_to name s = record s { names = (name, blank_name s.given) ∷ s.names; given = s.given + 1 }

-- a blank node identifier by its new name, and any other name as it is
abbrev pub renamed : Name → Told → Name
renamed name s = cond (is_blank name) (unwrap_or (known_name name s) (blank_name s.given)) name

abbrev pub give_where : Option Name → Name → Told → Told
give_where None name s = give_to name s
give_where (Some known) name s = s

-- a blank node identifier that is met for the first time gets its new name
abbrev pub rename : Name → Told → Told
rename name s = cond (is_blank name) (give_where (known_name name s) name s) s

-- the text that stands there, where one does
abbrev pub text_in : Option Tree → Option Name
text_in value = option_and_then text_of value

-- 6.1 and 6.2: the identifier of a node that has this `@id`; one without gets the next new one
abbrev pub identifier : Option Name → Told → Name
identifier None s = blank_name s.given
identifier (Some id) s = renamed id s

abbrev pub identify : Option Name → Told → Told
identify None s = give s
identify (Some id) s = rename id s

-- ---- values

-- where the value that an element gives belongs
pub data Spot : Type 0 where
  -- there is no active subject: the element stands right in a graph
  InGraph : Spot
  -- the active property of the active subject
  At : Slot → Spot
  -- the list in hand
  InList : Spot
  -- the element is the map of the reverse properties of this subject
  AtReverses : Name → Spot
  -- the element has this subject under this reverse property
  AtReverse : Name → Name → Spot

-- the value at its spot; with no active subject, or as the other end of a reverse property, it is left out
abbrev pub add : Spot → Tree → Told → Told
add (At slot) value s = tell (HasValue slot value) s
add InList value s = record s { hand = s.hand ++ value ∷ [] }
add _ value s = s

-- a node object that has only its identifier
abbrev pub reference : Name → Tree
reference id = one_entry (codes "@id") (text_tree id)

abbrev pub list_object : List Tree → Tree
list_object items = one_entry (codes "@list") (list_of items)

-- 6.5 and 6.6: under a reverse property the node gets a reference to the subject, and else a reference to the node goes to the
-- spot
abbrev pub link : Spot → Subject → Told → Told
link (AtReverse subject property) node s = add (At (node, property)) (reference subject) (tell (HasProperty (node, property)) s)
link spot node s = add spot (reference node.1) s

-- ---- types

abbrev pub types_in : Option Tree → List Tree
types_in None = []
types_in (Some types) = items_of types

abbrev pub rename_text : Option Name → Told → Told
rename_text None s = s
rename_text (Some name) s = rename name s

-- 3: the types of an element get their new names
abbrev pub rename_each : List Tree → Told → Told
rename_each [] s = s
rename_each (type ∷ types) s = rename_each types (rename_text (text_of type) s)

-- a type by its new name
abbrev pub renamed_type_of : Option Name → Tree → Told → Tree
renamed_type_of None type s = type
renamed_type_of (Some name) type s = text_tree (renamed name s)

abbrev pub renamed_type : Told → Tree → Tree
renamed_type s type = renamed_type_of (text_of type) type s

-- one type, or several
abbrev pub renamed_types_in : Tree-F Tree → Tree → Told → Tree
renamed_types_in (Tree-F.List types) tree s = list_of (map (renamed_type s) types)
renamed_types_in _ tree s = renamed_type s tree

-- a value object, its types by their new names
abbrev pub renamed_value_of : Option Tree → Tree → Told → Tree
renamed_value_of None value s = value
renamed_value_of (Some types) value s = map_of (put (entries_of value) (codes "@type") (renamed_types_in (out-Tree types) types s))

abbrev pub renamed_value : Tree → Told → Tree
renamed_value value s = renamed_value_of (member (codes "@type") value) value s

-- 6.7: a type of a node
abbrev pub add_type : Slot → Option Name → Told → Told
add_type slot None s = s
add_type slot (Some name) s = add (At slot) (text_tree (renamed name s)) (rename name s)

abbrev pub add_each_type : Slot → List Tree → Told → Told
add_each_type slot [] s = s
add_each_type slot (type ∷ types) s = add_each_type slot types (add_type slot (text_of type) s)

-- the types of a node; none make no property
abbrev pub add_types : Subject → List Tree → Told → Told
add_types node types s = cond (length types == 0) s (add_each_type (node, codes "@type") types (tell (HasProperty (node, codes "@type")) s))

-- ---- indexes

-- what is told of the `@index` of a node
abbrev pub index_of : Subject → List Fact → Option Name
index_of node [] = None
index_of node (HasIndex other index ∷ facts) = cond (is_subject other node) (Some index) (index_of node facts)
index_of node (fact ∷ facts) = index_of node facts

-- 6.8: the index of a node, beside the one that it has
abbrev pub index_beside : Option Name → Name → Subject → Told → Telling
index_beside None index node s = Ok (tell (HasIndex node index) s)
index_beside (Some other) index node s = cond (bytes_eq other index) (Ok s) (Err code.ConflictingIndexes)

abbrev pub add_index : Option Name → Subject → Told → Telling
add_index None node s = Ok s
add_index (Some index) node s = index_beside (index_of node s.facts) index node s

-- nothing told
abbrev pub nothing : Told
nothing = record { names = []; given = 0; facts = []; hand = [] }
