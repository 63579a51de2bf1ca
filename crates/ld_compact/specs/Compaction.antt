-- The Compaction Algorithm (JSON-LD 1.1 API, 6.1.2, and 9.1 `compact`) over a stock of documents.
use Rattle.std.specs.Prelude.{ℕ, ◌==◌, nat_lt, Bool, true, false, not, ◌&&◌, ◌||◌, if◌then◌else◌, List, [], ◌∷◌, ◌++◌, length, map, Option, Some, None, is_some, option_and_then, Result, Ok, Err, codes}
use Rattle.std.specs.Map.{keys_of}
use Rattle.std.specs.Option.{option_or}
use Rattle.std.specs.Str.{bytes_eq}
use Rattle.ld_codes.specs.declared.code.Code.TheVariants.{IriConfusedWithPrefix}
use Rattle.ld_tree.specs.Maps.{find, put, take_out, empty}
use Rattle.ld_tree.specs.Names.{Sorted}
use Rattle.ld_tree.specs.Recursion.{para}
use Rattle.ld_tree.specs.Trees.{member}
use Rattle.ld_tree.specs.declared.tree.Tree.{Tree, out-Tree}
use Rattle.ld_tree.specs.declared.tree.Tree.TheOpen.{Tree-F}
use Rattle.ld_tree.specs.declared.tree.Tree.TheViews.{roll-Tree}
use Rattle.ld_rec.specs.declared.def.Containers.{Containers}
use Rattle.ld_rec.specs.declared.stop.Stop.{Stop}
use Rattle.ld_rec.specs.declared.stop.Stop.TheVariants as stop
use Rattle.ld_rec.specs.Outcome.{Answer, Outcome, Stock, give, fails, each, ◌>>=◌}
use Rattle.ld_rec.specs.Records.{Context, fresh, def_of, same_text}
use Rattle.ld_rec.specs.Words.{is_among, text_of, items_of}
use Rattle.ld_rec.specs.Kinds.{null, text_tree, list_of, map_of, one_entry, is_null, is_scalar, entries_of, has_entry, is_list_object, is_graph_object}
use Rattle.ld_rec.specs.Iris.{or_else}
use Rattle.ld_rec.specs.Places.{containers_of, type_mapping_of, is_reverse, with_local, with_property_scoped, with_type_scoped}
use Rattle.ld_rec.specs.Expansion.{is_json, is_alone, is_id_alone, previous_or_same, put_in_order}
use Rattle.ld_rec.specs.Compacting.{compact_iri, compact_value}
use Rattle.ld_compact.specs.Adding.{items_at, add_value, add_keyed}
use Rattle.ld_compact.specs.Elements.{Way, Whole, Content, IdAlone, Place, Becomes, Item, Value, Entry, items_in, item_of, trees_of, value_at, compact_item, compact_whole, def_at}

-- ---- IRI Compaction and Value Compaction (6.2 and 6.3): they ask for no document

-- a value, or a code; they refuse nothing else
abbrev pub told : {A : Type 0} → Result A Stop → Answer A
told (Ok a) = give a
told (Err (stop.Code code)) = fails code
told (Err _) = fails IriConfusedWithPrefix

-- a keyword's name in the result
abbrev pub alias : Context → List ℕ → Answer (List ℕ)
alias context keyword = told (compact_iri context keyword None true false)

abbrev pub compact_id : Context → List ℕ → Answer (List ℕ)
compact_id context id = told (compact_iri context id None false false)

abbrev pub compact_type : Context → List ℕ → Answer (List ℕ)
compact_type context type = told (compact_iri context type None true false)

-- no active property: the empty text, which no context defines
abbrev pub text_or_empty : Option (List ℕ) → List ℕ
text_or_empty property = or_else property []

abbrev pub value_compaction : Context → Option (List ℕ) → Tree → Answer Tree
value_compaction context property value = told (compact_value context (text_or_empty property) value)

-- ---- texts and lists

abbrev pub text_in : Option Tree → Option (List ℕ)
text_in tree = option_and_then text_of tree

abbrev pub text_at : List ℕ → Tree → Option (List ℕ)
text_at name tree = text_in (member name tree)

abbrev pub as_list : Tree → Tree
as_list tree = list_of (items_of tree)

-- 3.2.2: null is left out
abbrev pub unless_null : Tree → List Tree → List Tree
unless_null tree items = if is_null tree then items else items ++ tree ∷ []

-- 3.2: an item of a list
abbrev pub add_item : Place → Item → List Tree → Answer (List Tree)
add_item place item items = item.1 (record place { way = Whole }) >>= (λ tree. give (unless_null tree items))

-- 3.3: a single item stands for the list, unless something asks for a list
abbrev pub is_graph_or_set : Option (List ℕ) → Bool
is_graph_or_set (Some property) = is_among (codes "@graph" ∷ codes "@set" ∷ []) property
is_graph_or_set None = false

abbrev pub holds_lists : Containers → Bool
holds_lists containers = containers.list || containers.set

abbrev pub keeps_list : Context → Option (List ℕ) → Bool
keeps_list context property = is_graph_or_set property || holds_lists (containers_of (def_at context property))

abbrev pub unlisted : (stays : Bool) → List Tree → Tree
unlisted false (tree ∷ []) = tree
unlisted _ items = list_of items

-- ---- a map that is compacted

-- what the rules for its entries look at; the types are compacted
pub record Node : Type 0 where
  pub context : Context
  pub property : Option (List ℕ)
  pub types : List (List ℕ)

-- a property of the result: its name, its containers, and whether it holds a list in any case
pub record Property : Type 0 where
  pub name : List ℕ
  pub containers : Containers
  pub as_list : Bool

-- Add Value under a property
abbrev pub add_to : Property → Tree → Sorted Tree → Sorted Tree
add_to property value result = add_value property.name property.as_list value result

-- 9: inside reverse
abbrev pub is_in_reverse : Option (List ℕ) → Bool
is_in_reverse property = same_text property (Some (codes "@reverse"))

-- 12.2.4, 12.3.2.1 and 12.8.5: whether a list in any case
abbrev pub wants_list : (arrays : Bool) → Containers → Bool
wants_list arrays containers = containers.set || not arrays

-- 12.8.1 to 12.8.5; by the expanded name (own)
abbrev pub property_of : (arrays : Bool) → Context → List ℕ → List ℕ → Property
property_of arrays context expanded name = record {
  name = name;
  containers = containers_of (def_of context name);
  as_list = is_among (codes "@graph" ∷ codes "@list" ∷ []) expanded || wants_list arrays (containers_of (def_of context name));
}

-- 12.7.2.2 and 12.8.1: the name of a property, for a value
abbrev pub compact_name : Node → Tree → List ℕ → Answer (List ℕ)
compact_name node value name = told (compact_iri node.context name (Some value) true (is_in_reverse node.property))

-- ---- entries under keywords

-- the value under the keyword's alias, where there is one
abbrev pub put_under : Context → List ℕ → Option Tree → Sorted Tree → Answer (Sorted Tree)
put_under context keyword None result = give result
put_under context keyword (Some value) result = alias context keyword >>= (λ name. give (put result name value))

-- 12.1
abbrev pub id_tree : Context → Option (List ℕ) → Answer (Option Tree)
id_tree context None = give None
id_tree context (Some id) = compact_id context id >>= (λ text. give (Some (text_tree text)))

abbrev pub id_rule : Context → Tree → Sorted Tree → Answer (Sorted Tree)
id_rule context value result = id_tree context (text_of value) >>= (λ id. put_under context (codes "@id") id result)

-- 12.2
abbrev pub type_rule : (arrays : Bool) → Node → Sorted Tree → Answer (Sorted Tree)
type_rule arrays node result =
    alias node.context (codes "@type") >>= (λ name.
    give (add_value name (wants_list arrays (containers_of (def_of node.context name))) (list_of (map text_tree node.types)) result))

-- 12.5: left out where the container has it
abbrev pub index_rule : Node → Tree → Sorted Tree → Answer (Sorted Tree)
index_rule node value result =
    if (containers_of (def_at node.context node.property)).index then give result else put_under node.context (codes "@index") (Some value) result

-- 12.3.2: what is under a reverse property goes to the result, the rest stays
abbrev pub turned : (arrays : Bool) → Context → List (List ℕ × Tree) → Sorted Tree → Sorted Tree → Sorted Tree × Sorted Tree
turned arrays context [] result rest = (result, rest)
turned arrays context (e ∷ es) result rest =
    if is_reverse (def_of context e.0)
    then turned arrays context es (add_value e.0 (wants_list arrays (containers_of (def_of context e.0))) e.1 result) rest
    else turned arrays context es result (put rest e.0 e.1)

-- 12.3.3
abbrev pub unless_empty : Sorted Tree → Option Tree
unless_empty entries = if length entries.0 == 0 then None else Some (map_of entries)

abbrev pub put_rest : Context → Sorted Tree × Sorted Tree → Answer (Sorted Tree)
put_rest context parts = put_under context (codes "@reverse") (unless_empty parts.1) parts.0

abbrev pub reversed : (arrays : Bool) → Context → Tree → Sorted Tree → Answer (Sorted Tree)
reversed arrays context value result = put_rest context (turned arrays context (entries_of value).0 result empty)

-- ---- 12.8.7: a list object

-- 12.8.7.2
abbrev pub labelled_list : Context → Tree → Tree → Answer (Sorted Tree)
labelled_list context item list =
    put_under context (codes "@list") (Some list) empty >>= put_under context (codes "@index") (member (codes "@index") item)

-- 12.8.7.3: in a container `@list` it takes the place of a former one
abbrev pub list_item : Context → Property → Tree → Tree → Sorted Tree → Answer (Sorted Tree)
list_item context property item compacted result =
    if property.containers.list then give (put result property.name (as_list compacted))
    else labelled_list context item (as_list compacted) >>= (λ entries. give (add_to property (map_of entries) result))

-- ---- 12.8.8 to 12.8.9: maps by key

-- a value in the map under a property
abbrev pub add_under : Property → List ℕ → Tree → Sorted Tree → Sorted Tree
add_under property key value result = add_keyed property.name property.as_list key value result

-- a key, or the alias of `@none`
abbrev pub key_or_none : Context → Option (List ℕ) → Answer (List ℕ)
key_or_none context (Some key) = give key
key_or_none context None = alias context (codes "@none")

abbrev pub put_keyed : Context → Property → Option (List ℕ) → Tree → Sorted Tree → Answer (Sorted Tree)
put_keyed context property key value result = key_or_none context key >>= (λ key. give (add_under property key value result))

-- ---- 12.8.8: a graph object

-- a graph without a name of its own
abbrev pub is_simple : Tree → Bool
is_simple item = not (has_entry (codes "@id") item)

-- 12.8.8.1
abbrev pub id_key : Context → Option (List ℕ) → Answer (List ℕ)
id_key context (Some id) = compact_id context id
id_key context None = alias context (codes "@none")

abbrev pub graph_by_id : Context → Property → Tree → Tree → Sorted Tree → Answer (Sorted Tree)
graph_by_id context property item compacted result =
    id_key context (text_at (codes "@id") item) >>= (λ key. give (add_under property key compacted result))

-- 12.8.8.2
abbrev pub graph_by_index : Context → Property → Tree → Tree → Sorted Tree → Answer (Sorted Tree)
graph_by_index context property item compacted result = put_keyed context property (text_at (codes "@index") item) compacted result

-- 12.8.8.3: several nodes are included in one
abbrev pub included_if_several : Context → Tree → Answer Tree
included_if_several context compacted =
    if nat_lt 1 (length (items_of compacted)) then put_under context (codes "@included") (Some compacted) empty >>= (λ entries. give (map_of entries))
    else give compacted

abbrev pub simple_graph : Context → Property → Tree → Sorted Tree → Answer (Sorted Tree)
simple_graph context property compacted result = included_if_several context compacted >>= (λ tree. give (add_to property tree result))

-- 12.8.8.4
abbrev pub labelled_graph : Context → Tree → Tree → Answer (Sorted Tree)
labelled_graph context item compacted =
    put_under context (codes "@graph") (Some compacted) empty >>= (λ entries.
    id_tree context (text_at (codes "@id") item) >>= (λ id.
    put_under context (codes "@id") id entries >>= put_under context (codes "@index") (member (codes "@index") item)))

abbrev pub whole_graph : Context → Property → Tree → Tree → Sorted Tree → Answer (Sorted Tree)
whole_graph context property item compacted result = labelled_graph context item compacted >>= (λ entries. give (add_to property (map_of entries) result))

-- 12.8.8: by the containers, among which `@graph` is, and whether the graph has an `@id`
abbrev pub graph_in : Context → Property → Tree → Tree → Sorted Tree → Answer (Sorted Tree)
graph_in context property item compacted result =
    if property.containers.id then graph_by_id context property item compacted result
    else if is_simple item then
    (if property.containers.index then graph_by_index context property item compacted result else simple_graph context property compacted result)
    else whole_graph context property item compacted result

abbrev pub graph_item : Context → Property → Tree → Tree → Sorted Tree → Answer (Sorted Tree)
graph_item context property item compacted result =
    if property.containers.graph then graph_in context property item compacted result else whole_graph context property item compacted result

-- ---- 12.8.9: a language map, index map, id map or type map

abbrev pub is_keyed : Containers → Bool
is_keyed containers = (containers.language || containers.index || containers.id || containers.types) && not containers.graph

-- what stands in such a map, and its key where it has one
abbrev pub Keyed : Type 0
Keyed = Option (List ℕ) × Tree

-- 12.8.9.4: by its language
abbrev pub by_language : Tree → Tree → Keyed
by_language item value = (text_at (codes "@language") item, value)

-- 12.8.9.6: by its index
abbrev pub by_index : Tree → Tree → Keyed
by_index item compacted = (text_at (codes "@index") item, compacted)

-- 12.8.9.7: by the `@id` under its alias, which is taken out; what is no map has no key (own, here and below)
abbrev pub taken_id : List ℕ → Sorted Tree → Keyed
taken_id name entries = (text_in (find entries name), map_of (take_out entries name))

abbrev pub by_id : Context → Tree → Tree-F Tree → Answer Keyed
by_id context compacted (Tree-F.Map entries) = alias context (codes "@id") >>= (λ name. give (taken_id name entries))
by_id context compacted _ = give (None, compacted)

-- 12.8.9.8: by the first type, which is taken out; the others stay
abbrev pub taken_first : List ℕ → List Tree → Sorted Tree → Keyed
taken_first name [] rest = (None, map_of rest)
taken_first name (type ∷ types) rest = (text_of type, map_of (add_value name false (list_of types) rest))

abbrev pub taken_type : List ℕ → Sorted Tree → Keyed
taken_type name entries = taken_first name (items_at (find entries name)) (take_out entries name)

-- 12.8.9.8.4: where an `@id` alone is left, the item's `@id` is compacted again
abbrev pub by_id_alone : Context → Property → Item → Keyed → Answer Keyed
by_id_alone context property item keyed =
    if is_id_alone context (keys_of (entries_of keyed.1).0) then compact_item IdAlone item context property.name >>= (λ tree. give (keyed.0, tree))
    else give keyed

abbrev pub by_type : Context → Property → Item → Tree → Tree-F Tree → Answer Keyed
by_type context property item compacted (Tree-F.Map entries) =
    alias context (codes "@type") >>= (λ name. by_id_alone context property item (taken_type name entries))
by_type context property item compacted _ = give (None, compacted)

-- by what the containers include: `@language` for a value, else `@index`, else `@id`, else `@type`
abbrev pub by_containers : Context → Property → Item → Tree → Answer Keyed
by_containers context property item compacted =
    if property.containers.index then give (by_index item.0 compacted)
    else if property.containers.id then by_id context compacted (out-Tree compacted)
    else if property.containers.types then by_type context property item compacted (out-Tree compacted)
    else give (None, compacted)

abbrev pub by_value : Context → Property → Item → Tree → Option Tree → Answer Keyed
by_value context property item compacted (Some value) = give (by_language item.0 value)
by_value context property item compacted None = by_containers context property item compacted

abbrev pub keyed_item : Context → Property → Item → Tree → Answer Keyed
keyed_item context property item compacted =
    if property.containers.language then by_value context property item compacted (member (codes "@value") item.0)
    else by_containers context property item compacted

-- 12.8.9.9 and 12.8.10
abbrev pub node_item : Context → Property → Item → Tree → Sorted Tree → Answer (Sorted Tree)
node_item context property item compacted result =
    if is_keyed property.containers
    then keyed_item context property item compacted >>= (λ keyed. put_keyed context property keyed.0 keyed.1 result)
    else give (add_to property compacted result)

-- ---- 12.8.6 to 12.8.10: an item, by its kind

abbrev pub item_by_kind : Context → Property → Item → Tree → Sorted Tree → Answer (Sorted Tree)
item_by_kind context property item compacted result =
    if is_list_object item.0 then list_item context property item.0 compacted result
    else if is_graph_object item.0 then graph_item context property item.0 compacted result
    else node_item context property item compacted result

-- 12.8.6: a list or graph object is compacted by what it holds
abbrev pub way_of : Tree → Way
way_of item = if is_list_object item || is_graph_object item then Content else Whole

abbrev pub item_under : Context → Property → Item → Sorted Tree → Answer (Sorted Tree)
item_under context property item result =
    compact_item (way_of item.0) item context property.name >>= (λ compacted. item_by_kind context property item compacted result)

-- ---- 12.7 and 12.8: the items under a name

abbrev pub item_rule : (arrays : Bool) → Node → List ℕ → Item → Sorted Tree → Answer (Sorted Tree)
item_rule arrays node expanded item result =
    compact_name node item.0 expanded >>= (λ name. item_under node.context (property_of arrays node.context expanded name) item result)

-- 12.7: an empty list
abbrev pub empty_rule : Node → List ℕ → Sorted Tree → Answer (Sorted Tree)
empty_rule node expanded result = compact_name node (list_of []) expanded >>= (λ name. give (add_value name true (list_of []) result))

abbrev pub items_rule : (arrays : Bool) → Node → List ℕ → List Item → Sorted Tree → Answer (Sorted Tree)
items_rule arrays node expanded [] result = empty_rule node expanded result
items_rule arrays node expanded items result = each (item_rule arrays node expanded) items result

-- ---- 12: an entry, by its name

-- 12.3
abbrev pub reverse_rule : (arrays : Bool) → Node → Value → Sorted Tree → Answer (Sorted Tree)
reverse_rule arrays node value result =
    compact_whole value node.context (Some (codes "@reverse")) >>= (λ tree. reversed arrays node.context tree result)

abbrev pub entry_rule : (arrays : Bool) → Node → Entry → Sorted Tree → Answer (Sorted Tree)
entry_rule arrays node e result =
    if bytes_eq e.0 (codes "@id") then id_rule node.context e.1.0 result
    else if bytes_eq e.0 (codes "@type") then type_rule arrays node result
    else if bytes_eq e.0 (codes "@reverse") then reverse_rule arrays node e.1 result
    else if bytes_eq e.0 (codes "@index") then index_rule node e.1.0 result
    else if is_among (codes "@language" ∷ codes "@value" ∷ []) e.0 then put_under node.context e.0 (Some e.1.0) result
    else items_rule arrays node e.0 (items_in e.1) result

-- in the order of the names
abbrev pub node_becomes : (arrays : Bool) → List Entry → Node → Answer Tree
node_becomes arrays entries node = each (entry_rule arrays node) entries empty >>= (λ result. give (map_of result))

-- ---- 11: the types and their contexts

-- compacted by the context as it came (own)
abbrev pub add_type : Context → Option (List ℕ) → List (List ℕ) → Answer (List (List ℕ))
add_type entry None texts = give texts
add_type entry (Some type) texts = compact_type entry type >>= (λ text. give (texts ++ text ∷ []))

abbrev pub compacted_types : Context → List Tree → Answer (List (List ℕ))
compacted_types entry types = each (λ type. add_type entry (text_of type)) types []

-- in the order of code points
abbrev pub in_order : List (List ℕ) → List (List ℕ)
in_order [] = []
in_order (text ∷ texts) = put_in_order text (in_order texts)

-- 11.1: looked up in the context as it came, and not handed on to other nodes
abbrev pub with_type : Context → List ℕ → Context → Answer Context
with_type entry type context = with_type_scoped (def_of entry type) context

abbrev pub with_types : Context → List (List ℕ) → Context → Answer Context
with_types entry types context = each (with_type entry) (in_order types) context

abbrev pub typed_becomes : (arrays : Bool) → List Entry → (entry : Context) → Place → List (List ℕ) → Answer Tree
typed_becomes arrays entries entry place types =
    with_types entry types place.context >>= (λ context. node_becomes arrays entries (record { context = context; property = place.property; types = types }))

abbrev pub full_becomes : (arrays : Bool) → Tree → List Entry → (entry : Context) → Place → Answer Tree
full_becomes arrays tree entries entry place = compacted_types entry (items_at (member (codes "@type") tree)) >>= typed_becomes arrays entries entry place

-- ---- 5 to 8: a map; `entry` is the context as it came

-- 8: a list object under a container `@list`
abbrev pub list_or_full : (arrays : Bool) → Tree → List Entry → (entry : Context) → Place → Option Value → Answer Tree
list_or_full arrays tree entries entry place None = full_becomes arrays tree entries entry place
list_or_full arrays tree entries entry place (Some list) = compact_whole list place.context place.property

abbrev pub needed_map : (arrays : Bool) → Tree → List Entry → (entry : Context) → Place → Answer Tree
needed_map arrays tree entries entry place =
    if (containers_of (def_at place.context place.property)).list then list_or_full arrays tree entries entry place (value_at (codes "@list") entries)
    else full_becomes arrays tree entries entry place

-- 7: a value or a reference that needs no map, and what stands under a property of JSON literals
abbrev pub if_no_map : Context → Option (List ℕ) → Tree → Option Tree
if_no_map context property tree = if is_scalar tree || is_json (type_mapping_of (def_at context property)) then Some tree else None

abbrev pub value_or_map : Tree → Context → Option (List ℕ) → Answer (Option Tree)
value_or_map tree context property =
    if has_entry (codes "@id") tree || has_entry (codes "@value") tree
    then value_compaction context property tree >>= (λ value. give (if_no_map context property value))
    else give None

abbrev pub given_or_needed : (arrays : Bool) → Tree → List Entry → (entry : Context) → Place → Option Tree → Answer Tree
given_or_needed arrays tree entries entry place (Some value) = give value
given_or_needed arrays tree entries entry place None = needed_map arrays tree entries entry place

abbrev pub map_within : (arrays : Bool) → Tree → List Entry → (entry : Context) → Place → Answer Tree
map_within arrays tree entries entry place = value_or_map tree place.context place.property >>= given_or_needed arrays tree entries entry place

-- 5: the previous context comes back, but for a value object and an `@id` alone
abbrev pub keeps_context : Tree → Bool
keeps_context tree = has_entry (codes "@value") tree || is_alone (codes "@id") (entries_of tree)

abbrev pub reverted : Context → Tree → Context
reverted context tree = if keeps_context tree then context else previous_or_same context

-- 5 and 6: the property's own context is looked up in the context as it came (own)
abbrev pub map_becomes : (arrays : Bool) → Tree → List Entry → Place → Answer Tree
map_becomes arrays tree entries place =
    with_property_scoped (def_at place.context place.property) (reverted place.context tree)
    >>= (λ context. map_within arrays tree entries place.context (record { context = context; property = place.property; way = Whole }))

-- ---- an element at its place

-- what a list or graph object holds
abbrev pub content_of : List Entry → Option Value
content_of entries = option_or (value_at (codes "@list") entries) (value_at (codes "@graph") entries)

abbrev pub content_becomes : Option Value → Place → Answer Tree
content_becomes None place = give null
content_becomes (Some value) place = compact_whole value place.context place.property

-- a node by its `@id` alone is the map of that one entry
abbrev pub alone : List ℕ → Option Tree → Tree
alone name None = map_of empty
alone name (Some tree) = one_entry name tree

abbrev pub entry_alone : List ℕ → Option Value → List Entry
entry_alone name None = []
entry_alone name (Some value) = (name, value) ∷ []

abbrev pub id_becomes : (arrays : Bool) → Tree → List Entry → Place → Answer Tree
id_becomes arrays tree entries place = map_becomes arrays (alone (codes "@id") (member (codes "@id") tree)) (entry_alone (codes "@id") (value_at (codes "@id") entries)) place

abbrev pub by_way : (arrays : Bool) → Way → Tree → List Entry → Place → Answer Tree
by_way arrays Whole tree entries place = map_becomes arrays tree entries place
by_way arrays Content tree entries place = content_becomes (content_of entries) place
by_way arrays IdAlone tree entries place = id_becomes arrays tree entries place

-- 3
abbrev pub list_becomes : (arrays : Bool) → List Item → Place → Answer Tree
list_becomes arrays items place = each (add_item place) items [] >>= (λ trees. give (unlisted (not arrays || keeps_list place.context place.property) trees))

-- 2: a scalar stays
abbrev pub level_becomes : (arrays : Bool) → Tree-F Value → Becomes
level_becomes arrays Tree-F.Null place = give null
level_becomes arrays (Tree-F.Bool b) place = give (roll-Tree (Tree-F.Bool b))
level_becomes arrays (Tree-F.Num n) place = give (roll-Tree (Tree-F.Num n))
level_becomes arrays (Tree-F.Text text) place = give (text_tree text)
level_becomes arrays (Tree-F.List values) place = list_becomes arrays (map item_of values) place
level_becomes arrays (Tree-F.Map entries) place = by_way arrays place.way (map_of (trees_of entries)) entries.0 place

abbrev pub level_items : Tree-F Value → List Item
level_items (Tree-F.List values) = map item_of values
level_items _ = []

abbrev pub compaction_step : (arrays : Bool) → Tree-F Value → Becomes × List Item
compaction_step arrays level = (level_becomes arrays level, level_items level)

-- what an element comes to, and its items beside what each of them comes to
unfoldable pub element : (arrays : Bool) → Tree → Becomes × List Item
element arrays = para (Becomes × List Item) (compaction_step arrays)

-- ---- a document (9.1, `compact`)

-- 7: a document's context, where the tree given is one
abbrev pub own_context : Tree → Tree
own_context context = or_else (member (codes "@context") context) context

-- 12: an empty list gives the empty map, and another one stands under `@graph`; so does a single value (own)
abbrev pub graph_of : Context → List Tree → Answer (Sorted Tree)
graph_of context [] = give empty
graph_of context items = put_under context (codes "@graph") (Some (list_of items)) empty

abbrev pub top_entries : Context → Tree → Tree-F Tree → Answer (Sorted Tree)
top_entries context tree (Tree-F.Map entries) = give entries
top_entries context tree _ = graph_of context (items_of tree)

-- 13: null, `{}` and `[]` say nothing
abbrev pub says_nothing : Tree-F Tree → Bool
says_nothing Tree-F.Null = true
says_nothing (Tree-F.List items) = length items == 0
says_nothing (Tree-F.Map entries) = length entries.0 == 0
says_nothing _ = false

abbrev pub with_context : Tree → Sorted Tree → Tree
with_context local entries = map_of (if says_nothing (out-Tree local) then entries else put entries (codes "@context") local)

abbrev pub document_becomes : (arrays : Bool) → Tree → Tree → Context → Answer Tree
document_becomes arrays expanded local context =
    (element arrays expanded).0 (record { context = context; property = None; way = Whole }) >>= (λ tree.
    top_entries context tree (out-Tree tree) >>= (λ entries. give (with_context local entries)))

-- 7 to 9: the context is processed over a fresh one for the base, with the base as base URL
abbrev pub compacted_by : Tree → (local : Tree) → Option (List ℕ) → (arrays : Bool) → Answer Tree
compacted_by expanded local base arrays = with_local (Some local) base false true (fresh base) >>= document_becomes arrays expanded local

abbrev pub compaction : Tree → (context : Tree) → Option (List ℕ) → (arrays : Bool) → Answer Tree
compaction expanded context base arrays = compacted_by expanded (own_context context) base arrays

-- the outcome over a stock
abbrev pub compacted : Stock → Tree → (context : Tree) → Option (List ℕ) → (arrays : Bool) → Outcome Tree
compacted stock expanded context base arrays = (compaction expanded context base arrays).run stock
