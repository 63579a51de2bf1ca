-- The Expansion Algorithm (JSON-LD 1.1 API, 5.1.2) over a stock of documents.
use Rattle.std.specs.Prelude.{ℕ, ◌==◌, ◌-◌, Bool, true, false, not, ◌&&◌, ◌||◌, if◌then◌else◌, List, [], ◌∷◌, ◌++◌, length, map, slice_get, find as first_with, Option, Some, None, option_map, option_and_then, is_none, filter_map, codes}
use Rattle.std.specs.List.{list_any, list_all}
use Rattle.std.specs.Map.{keys_of}
use Rattle.std.specs.Ordering.{match_ordering}
use Rattle.std.specs.Str.{bytes_eq}
use Rattle.ld_codes.specs.declared.code.Code.TheVariants as code
use Rattle.ld_codes.specs.declared.keyword.Keyword.{Keyword}
use Rattle.ld_codes.specs.declared.keyword.Keyword.TheVariants as keyword
use Rattle.ld_codes.specs.declared.own.Own.TheVariants.{OutsideProfile}
use Rattle.ld_codes.specs.Keywords.{keyword_text, keywords}
use Rattle.ld_iri.specs.Words.{is_iri}
use Rattle.ld_tree.specs.Maps.{find, put, empty}
use Rattle.ld_tree.specs.Names.{Sorted, name_cmp}
use Rattle.ld_tree.specs.Recursion.{para}
use Rattle.ld_tree.specs.Trees.{member}
use Rattle.ld_tree.specs.declared.tree.Tree.{Tree, out-Tree}
use Rattle.ld_tree.specs.declared.tree.Tree.TheOpen.{Tree-F}
use Rattle.ld_tree.specs.declared.tree.Tree.TheViews.{roll-Tree}
use Rattle.ld_rec.specs.declared.def.Def.{Def}
use Rattle.ld_rec.specs.declared.def.Containers.{Containers}
use Rattle.ld_rec.specs.declared.way.Way.{Way}
use Rattle.ld_rec.specs.declared.way.Way.TheVariants.{Plain, FromMap, AsMap}
use Rattle.ld_rec.specs.Iris.{is_colon, or_else}
use Rattle.ld_rec.specs.Outcome.{Answer, Outcome, Stock, give, fails, declines, each, ◌>>=◌}
use Rattle.ld_rec.specs.Records.{Context, fresh, previous, def_of, same_text}
use Rattle.ld_rec.specs.Words.{is_among, lowered, text_of, items_of, has, names_are_among}
use Rattle.ld_rec.specs.Kinds.{null, text_tree, list_of, map_of, one_entry, two_entries, is_null, is_scalar, is_list, is_map, is_text, entries_of, is_value_object, is_list_object, is_node_object}
use Rattle.ld_rec.specs.Places.{Place, Becomes, Element, Entry, trees_of, expand_as, expand_under, held_by, property_def, containers_of, type_mapping_of, is_reverse, with_local, with_property_scoped, with_type_scoped, name_iri, id_iri, type_iri, means}
use Rattle.ld_rec.specs.Values.{value_expansion, is_language_map, language_items, expanded_key, index_item, as_graph}

-- ---- lists of what was expanded

-- 5.2.3: the items that it adds to a list: null none, a list its own
abbrev pub items_in : Option Tree → List Tree
items_in None = []
items_in (Some tree) = items_of tree

-- "ensuring that the result is an array"; null gives the empty one (own)
abbrev pub as_list : Option Tree → Tree
as_list tree = list_of (items_in tree)

-- ---- entries of the result

abbrev pub put_some : List ℕ → Option Tree → Sorted Tree → Sorted Tree
put_some name None result = result
put_some name (Some value) result = put result name value

-- Add Value (JSON-LD 1.1 API, 4.4), as array: the items behind those that the name has
abbrev pub add_items : List ℕ → List Tree → Sorted Tree → Sorted Tree
add_items name items result = put result name (list_of (items_in (find result name) ++ items))

-- the same in the result's reverse map
abbrev pub reverse_map_in : Option Tree → Sorted Tree
reverse_map_in None = empty
reverse_map_in (Some tree) = entries_of tree

abbrev pub add_reverse : List ℕ → List Tree → Sorted Tree → Sorted Tree
add_reverse name items result = put result (codes "@reverse") (map_of (add_items name items (reverse_map_in (find result (codes "@reverse")))))

-- 13.4.13.4.2.1.1 and 13.13.4.1: what can't be at the other end of a reverse property
abbrev pub is_no_subject : Tree → Bool
is_no_subject item = is_value_object item || is_list_object item

abbrev pub add_subjects : List ℕ → List Tree → Sorted Tree → Answer (Sorted Tree)
add_subjects name items result = if list_any is_no_subject items then fails code.InvalidReversePropertyValue else give (add_reverse name items result)

-- ---- a map that is expanded: what the rules for its entries look at

pub record Node : Type 0 where
  pub context : Context
  -- 10: the type-scoped context
  pub type_context : Context
  pub property : Option (List ℕ)
  -- 12: the input type is `@json`
  pub json : Bool

-- ---- 13.4: the keywords

-- 13.4.3; an identifier that expands to null is left out (own)
abbrev pub add_id : Node → Option (List ℕ) → Sorted Tree → Answer (Sorted Tree)
add_id node (Some text) result = give (put_some (codes "@id") (option_map text_tree (id_iri node.context text)) result)
add_id node None result = fails code.InvalidIdValue

-- 13.4.4.4; a type that expands to null is left out, and so is a list of which nothing is left (own)
abbrev pub type_in : Context → Tree → Option Tree
type_in context type = option_and_then (λ text. option_map text_tree (type_iri context text)) (text_of type)

abbrev pub unless_emptied : List Tree → List Tree → Option Tree
unless_emptied (t ∷ ts) [] = None
unless_emptied _ types = Some (list_of types)

abbrev pub types_of : Context → Tree → Tree-F Tree → Option Tree
types_of context value (Tree-F.List types) = unless_emptied types (filter_map (type_in context) types)
types_of context value _ = type_in context value

-- 13.4.4.5: behind the result's types
abbrev pub join_types : Option Tree → Tree → Tree
join_types None types = types
join_types (Some former) types = list_of (items_of former ++ items_of types)

abbrev pub put_types : Option Tree → Sorted Tree → Sorted Tree
put_types None result = result
put_types (Some types) result = put result (codes "@type") (join_types (find result (codes "@type")) types)

-- 13.4.4
abbrev pub add_types : Node → Tree → Sorted Tree → Answer (Sorted Tree)
add_types node value result =
    if list_all is_text (items_of value) then give (put_types (types_of node.type_context value (out-Tree value)) result) else fails code.InvalidTypeValue

-- 13.4.5
abbrev pub add_graph : Node → Element → Sorted Tree → Answer (Sorted Tree)
add_graph node value result = expand_under value node.context (codes "@graph") >>= (λ tree. give (put result (codes "@graph") (as_list tree)))

-- 13.4.6.3 and 13.4.6.4; null is no node object (own)
abbrev pub included : Option Tree → Sorted Tree → Answer (Sorted Tree)
included None result = fails code.InvalidIncludedValue
included (Some tree) result = if list_all is_node_object (items_of tree) then give (add_items (codes "@included") (items_of tree) result) else fails code.InvalidIncludedValue

-- 13.4.6
abbrev pub add_included : Node → Element → Sorted Tree → Answer (Sorted Tree)
add_included node value result = expand_as Plain value node.context None >>= (λ tree. included tree result)

-- 13.4.7
abbrev pub add_value : Node → Tree → Sorted Tree → Answer (Sorted Tree)
add_value node value result = if node.json || is_scalar value || is_null value then give (put result (codes "@value") value) else fails code.InvalidValueObjectValue

-- 13.4.8; in lower case (own)
abbrev pub add_language : Option (List ℕ) → Sorted Tree → Answer (Sorted Tree)
add_language (Some tag) result = give (put result (codes "@language") (text_tree (lowered tag)))
add_language None result = fails code.InvalidLanguageTaggedString

-- 13.4.10
abbrev pub add_index : Option (List ℕ) → Sorted Tree → Answer (Sorted Tree)
add_index (Some index) result = give (put result (codes "@index") (text_tree index))
add_index None result = fails code.InvalidIndexValue

-- 13.4.11
abbrev pub add_list : Node → Option (List ℕ) → Element → Sorted Tree → Answer (Sorted Tree)
add_list node None value result = give result
add_list node (Some property) value result = expand_under value node.context property >>= (λ tree. give (put result (codes "@list") (as_list tree)))

-- 13.4.12
abbrev pub add_set : Node → Element → Sorted Tree → Answer (Sorted Tree)
add_set node value result = expand_as Plain value node.context node.property >>= (λ tree. give (put result (codes "@set") (or_else tree null)))

-- 13.4.13.3: what is reversed twice; a property with no items gets the empty list (own, here and below)
abbrev pub add_forward : List ℕ × Tree → Sorted Tree → Answer (Sorted Tree)
add_forward e result = give (add_items e.0 (items_of e.1) result)

-- 13.4.13.4
abbrev pub add_backward : List ℕ × Tree → Sorted Tree → Answer (Sorted Tree)
add_backward e result = if bytes_eq e.0 (codes "@reverse") then give result else add_subjects e.0 (items_of e.1) result

abbrev pub add_reversed : Option Tree → Sorted Tree → Answer (Sorted Tree)
add_reversed None result = give result
add_reversed (Some tree) result = each add_forward (reverse_map_in (member (codes "@reverse") tree)).0 result >>= each add_backward (entries_of tree).0

-- 13.4.13
abbrev pub add_reverses : Node → Element → Sorted Tree → Answer (Sorted Tree)
add_reverses node value result =
    if is_map value.0 then expand_under value node.context (codes "@reverse") >>= (λ tree. add_reversed tree result) else fails code.InvalidReverseValue

-- 13.4.3 to 13.4.14: each keyword's rule; any other keyword is dropped (own)
abbrev pub by_keyword : Node → Keyword → Element → Sorted Tree → Answer (Sorted Tree)
by_keyword node keyword.Id value result = add_id node (text_of value.0) result
by_keyword node keyword.Typed value result = add_types node value.0 result
by_keyword node keyword.Graph value result = add_graph node value result
by_keyword node keyword.Included value result = add_included node value result
by_keyword node keyword.Value value result = add_value node value.0 result
by_keyword node keyword.Language value result = add_language (text_of value.0) result
by_keyword node keyword.Index value result = add_index (text_of value.0) result
by_keyword node keyword.List value result = add_list node (held_by node.property) value result
by_keyword node keyword.Set value result = add_set node value result
by_keyword node keyword.Reverse value result = add_reverses node value result
by_keyword node keyword.Direction value result = declines (OutsideProfile keyword.Direction)
by_keyword node keyword.Nest value result = declines (OutsideProfile keyword.Nest)
by_keyword node _ value result = give result

-- 13.4.1
abbrev pub is_in_reverse : Node → Bool
is_in_reverse node = same_text node.property (Some (codes "@reverse"))

-- 13.4.2
abbrev pub collides : List ℕ → Sorted Tree → Bool
collides iri result = has result iri && not (is_among (codes "@included" ∷ codes "@type" ∷ []) iri)

abbrev pub add_keyword : Node → List ℕ → Keyword → Element → Sorted Tree → Answer (Sorted Tree)
add_keyword node iri k value result =
    if is_in_reverse node then fails code.InvalidReversePropertyMap
    else if collides iri result then fails code.CollidingKeywords
    else by_keyword node k value result

-- ---- 13.5 to 13.14: the properties

-- 13.6
abbrev pub json_value : Tree → Tree
json_value value = two_entries (codes "@type") (text_tree (codes "@json")) (codes "@value") value

-- 13.7
abbrev pub language_list : Context → Sorted Tree → Answer (Option Tree)
language_list context entries = if is_language_map entries then give (Some (list_of (language_items context entries))) else fails code.InvalidLanguageMapValue

-- 13.8
abbrev pub is_keyed : Containers → Bool
is_keyed containers = containers.index || containers.id || containers.types

-- 13.7 and 13.8: a map under a container; 13.9: any other value
abbrev pub map_or_value : Node → List ℕ → Containers → Element → Answer (Option Tree)
map_or_value node name containers value =
    if containers.language && is_map value.0 then language_list node.context (entries_of value.0)
    else if is_keyed containers && is_map value.0 then expand_as AsMap value node.context (Some name)
    else expand_under value node.context name

abbrev pub is_json : Option (List ℕ) → Bool
is_json type = same_text type (Some (codes "@json"))

abbrev pub property_value : Node → List ℕ → Option Def → Element → Answer (Option Tree)
property_value node name def value = if is_json (type_mapping_of def) then give (Some (json_value value.0)) else map_or_value node name (containers_of def) value

-- 13.11 (and 5.2.2)
abbrev pub list_object : Tree → Tree
list_object tree = one_entry (codes "@list") (as_list (Some tree))

abbrev pub listed : Containers → Tree → Tree
listed containers tree = if containers.list && not (is_list_object tree) then list_object tree else tree

-- 13.12
abbrev pub graphed : Containers → Tree → Tree
graphed containers tree = if containers.graph && not (containers.id || containers.index) then list_of (map as_graph (items_of tree)) else tree

-- 13.13 and 13.14
abbrev pub add_property : List ℕ → Option Def → Tree → Sorted Tree → Answer (Sorted Tree)
add_property iri def tree result = if is_reverse def then add_subjects iri (items_of tree) result else give (add_items iri (items_of tree) result)

-- 13.10: null is ignored
abbrev pub add_unless_null : List ℕ → Option Def → Option Tree → Sorted Tree → Answer (Sorted Tree)
add_unless_null iri def None result = give result
add_unless_null iri def (Some tree) result = add_property iri def (graphed (containers_of def) (listed (containers_of def) tree)) result

abbrev pub by_property : Node → List ℕ → List ℕ → Option Def → Element → Sorted Tree → Answer (Sorted Tree)
by_property node iri name def value result = property_value node name def value >>= (λ tree. add_unless_null iri def tree result)

-- ---- 13.1 to 13.4: an entry, by what its name expands to

unfoldable pub keyword_of : List ℕ → Option Keyword
keyword_of iri = first_with (λ k. bytes_eq iri (keyword_text k)) keywords

-- 13.3
abbrev pub has_colon : List ℕ → Bool
has_colon iri = list_any is_colon iri

-- 13.3 and 13.4
abbrev pub by_iri : Node → List ℕ → Option Keyword → Entry → Sorted Tree → Answer (Sorted Tree)
by_iri node iri (Some k) e result = add_keyword node iri k e.1 result
by_iri node iri None e result = if has_colon iri then by_property node iri e.0 (def_of node.context e.0) e.1 result else give result

abbrev pub by_expanded : Node → Option (List ℕ) → Entry → Sorted Tree → Answer (Sorted Tree)
by_expanded node None e result = give result
by_expanded node (Some iri) e result = by_iri node iri (keyword_of iri) e result

-- 13.1 and 13.2
abbrev pub by_entry : Node → Entry → Sorted Tree → Answer (Sorted Tree)
by_entry node e result = if bytes_eq e.0 (codes "@context") then give result else by_expanded node (name_iri node.context e.0) e result

-- ---- 15 to 20: the end of a map

-- 15.1
abbrev pub value_names : List (List ℕ)
value_names = codes "@index" ∷ codes "@language" ∷ codes "@type" ∷ codes "@value" ∷ []

abbrev pub is_mixed : Sorted Tree → Bool
is_mixed result = not (names_are_among value_names result) || (has result (codes "@type") && has result (codes "@language"))

-- 15.5
abbrev pub is_iri_text : Option (List ℕ) → Bool
is_iri_text (Some text) = is_iri text
is_iri_text None = false

abbrev pub is_typed_well : Option Tree → Bool
is_typed_well None = true
is_typed_well (Some type) = is_iri_text (text_of type)

-- 15.3 to 15.5 (own: an empty array isn't null)
abbrev pub plain_value : Tree → Sorted Tree → Answer (Option Tree)
plain_value value result =
    if is_null value then give None
    else if has result (codes "@language") && not (is_text value) then fails code.InvalidLanguageTaggedValue
    else if is_typed_well (find result (codes "@type")) then give (Some (map_of result))
    else fails code.InvalidTypedValue

-- 15.2
abbrev pub is_json_literal : Sorted Tree → Bool
is_json_literal result = is_json (option_and_then text_of (find result (codes "@type")))

-- 15
abbrev pub value_object : Tree → Sorted Tree → Answer (Option Tree)
value_object value result =
    if is_mixed result then fails code.InvalidValueObject
    else if is_json_literal result then give (Some (map_of result))
    else plain_value value result

-- 16
abbrev pub listed_types : Sorted Tree → Sorted Tree
listed_types result = put_some (codes "@type") (option_map (λ types. list_of (items_of types)) (find result (codes "@type"))) result

-- 17.2: `@set` gives its value
abbrev pub unless_null : Tree → Option Tree
unless_null tree = if is_null tree then None else Some tree

abbrev pub set_value : Tree → Sorted Tree → Answer (Option Tree)
set_value value result = if names_are_among (codes "@index" ∷ codes "@set" ∷ []) result then give (unless_null value) else fails code.InvalidSetOrListObject

-- 17.1; `@type` counts here too (own)
abbrev pub list_value : Sorted Tree → Answer (Option Tree)
list_value result = if names_are_among (codes "@index" ∷ codes "@list" ∷ []) result then give (Some (map_of result)) else fails code.InvalidSetOrListObject

-- 17
abbrev pub set_or_list : Option Tree → Sorted Tree → Answer (Option Tree)
set_or_list (Some value) result = set_value value result
set_or_list None result = if has result (codes "@list") then list_value result else give (Some (map_of result))

-- 15 to 17
abbrev pub object_of : Option Tree → Sorted Tree → Answer (Option Tree)
object_of (Some value) result = value_object value result
object_of None result = set_or_list (find result (codes "@set")) (listed_types result)

abbrev pub is_alone : List ℕ → Sorted Tree → Bool
is_alone name entries = length entries.0 == 1 && has entries name

-- 19: with `@value` or `@list`, whatever stands beside it (own)
abbrev pub floats_free : Sorted Tree → Bool
floats_free entries = length entries.0 == 0 || has entries (codes "@value") || has entries (codes "@list") || is_alone (codes "@id") entries

-- 18 and 19
abbrev pub is_dropped : Option (List ℕ) → Tree → Bool
is_dropped property tree = is_map tree && (is_alone (codes "@language") (entries_of tree) || (is_none (held_by property) && floats_free (entries_of tree)))

abbrev pub unless_dropped : Option (List ℕ) → Tree → Option Tree
unless_dropped property tree = if is_dropped property tree then None else Some tree

-- 15 to 20
abbrev pub ended : Option (List ℕ) → Sorted Tree → Answer (Option Tree)
ended property result = object_of (find result (codes "@value")) result >>= (λ tree. give (option_and_then (unless_dropped property) tree))

-- ---- 7 to 12: the contexts of a map

-- 7: the previous context comes back, but for the value of a container's map, a value object, and an `@id` alone
abbrev pub is_id_alone : Context → List (List ℕ) → Bool
is_id_alone context (name ∷ []) = means context (codes "@id") name
is_id_alone context _ = false

abbrev pub is_plain : Way → Bool
is_plain Plain = true
is_plain _ = false

abbrev pub keeps_context : Context → Way → List (List ℕ) → Bool
keeps_context context way names = not (is_plain way) || list_any (means context (codes "@value")) names || is_id_alone context names

abbrev pub previous_or_same : Context → Context
previous_or_same context = or_else (previous context) context

abbrev pub reverted : Context → Way → List (List ℕ) → Context
reverted context way names = if keeps_context context way names then context else previous_or_same context

-- 9
abbrev pub with_own : Option (List ℕ) → Option Tree → Context → Answer Context
with_own base local context = with_local local base false true context

-- 11.2: the texts in the order of code points, each as often as it is there (own)
abbrev pub put_in_order : List ℕ → List (List ℕ) → List (List ℕ)
put_in_order text [] = text ∷ []
put_in_order text (t ∷ ts) = match_ordering (name_cmp text t) (text ∷ t ∷ ts) (text ∷ t ∷ ts) (t ∷ put_in_order text ts)

abbrev pub put_text_in_order : Option (List ℕ) → List (List ℕ) → List (List ℕ)
put_text_in_order None texts = texts
put_text_in_order (Some text) texts = put_in_order text texts

abbrev pub sorted_texts : List Tree → List (List ℕ)
sorted_texts [] = []
sorted_texts (t ∷ ts) = put_text_in_order (text_of t) (sorted_texts ts)

abbrev pub with_type : Context → List ℕ → Context → Answer Context
with_type type_context type context = with_type_scoped (def_of type_context type) context

-- 11: for each name that expands to `@type`, by the context as it is then
abbrev pub with_types_of : Context → List ℕ × Tree → Context → Answer Context
with_types_of type_context e context = if means context (codes "@type") e.0 then each (with_type type_context) (sorted_texts (items_of e.1)) context else give context

abbrev pub with_types : Sorted Tree → Context → Answer Context
with_types trees type_context = each (with_types_of type_context) trees.0 type_context

-- 12: the last value of the first entry that expands to `@type`; what is no text is no input type (own)
abbrev pub first_type_value : Context → List (List ℕ × Tree) → Option Tree
first_type_value context [] = None
first_type_value context (e ∷ es) = if means context (codes "@type") e.0 then Some e.1 else first_type_value context es

abbrev pub last_text : List Tree → Option (List ℕ)
last_text items = option_and_then text_of (slice_get items (length items - 1))

abbrev pub input_type : Context → Sorted Tree → Option (List ℕ)
input_type context trees = option_and_then (λ value. option_and_then (name_iri context) (last_text (items_of value))) (first_type_value context trees.0)

-- ---- 13.8: the map of a container `@index`, `@id` or `@type`

-- 13.8.3.1
abbrev pub map_context : Containers → Context → Context
map_context containers context = if containers.id || containers.types then previous_or_same context else context

-- 13.8.3.2
abbrev pub with_key_type : Containers → List ℕ → Context → Answer Context
with_key_type containers key context = if containers.types then with_type_scoped (def_of context key) context else give context

-- 13.8.3.7
abbrev pub keyed_items : Place → Containers → List ℕ → Option Tree → List Tree
keyed_items place containers key tree = map (index_item containers key (expanded_key place.context containers key)) (items_in tree)

-- 13.8.3
abbrev pub add_key : Containers → Place → Entry → List Tree → Answer (List Tree)
add_key containers place e joined =
    with_key_type containers e.0 (map_context containers place.context) >>= (λ context.
    expand_as FromMap e.1 context place.property >>= (λ tree.
    give (joined ++ keyed_items place containers e.0 tree)))

abbrev pub keyed_becomes : List Entry → Becomes
keyed_becomes entries place = each (add_key (containers_of (property_def place)) place) entries [] >>= (λ joined. give (Some (list_of joined)))

-- ---- an element, by its kind

-- 4
abbrev pub scalar_becomes : Tree → Place → Option (List ℕ) → Answer (Option Tree)
scalar_becomes scalar place None = give None
scalar_becomes scalar place (Some property) =
    with_property_scoped (property_def place) place.context >>= (λ context. give (value_expansion context property scalar))

-- 5.2.2
abbrev pub list_in_list : Containers → Tree → Tree
list_in_list containers tree = if containers.list && is_list tree then list_object tree else tree

-- 5.2; an item is taken in the way of its list
abbrev pub add_item : Containers → Place → Element → List Tree → Answer (List Tree)
add_item containers place item joined = item.1 place >>= (λ tree. give (joined ++ items_in (option_map (list_in_list containers) tree)))

-- 5
abbrev pub list_becomes : List Element → Becomes
list_becomes items place = each (add_item (containers_of (property_def place)) place) items [] >>= (λ joined. give (Some (list_of joined)))

-- 13 to 20: the entries in the order of their names
abbrev pub node_becomes : List Entry → Node → Answer (Option Tree)
node_becomes entries node = each (by_entry node) entries empty >>= ended node.property

-- 10 to 12, and on
abbrev pub typed_becomes : Sorted Tree → List Entry → Option (List ℕ) → Context → Answer (Option Tree)
typed_becomes trees entries property type_context =
    with_types trees type_context >>= (λ context.
    node_becomes entries (record { context = context; type_context = type_context; property = property; json = is_json (input_type context trees) }))

-- 7 to 9, and on
abbrev pub map_becomes : Option (List ℕ) → Sorted Tree → List Entry → Becomes
map_becomes base trees entries place =
    with_property_scoped (property_def place) (reverted place.context place.way (keys_of trees.0))
    >>= with_own base (find trees (codes "@context"))
    >>= typed_becomes trees entries place.property

abbrev pub map_by_way : Option (List ℕ) → Way → Sorted Tree → List Entry → Becomes
map_by_way base AsMap trees entries place = keyed_becomes entries place
map_by_way base _ trees entries place = map_becomes base trees entries place

-- 1 to 6
abbrev pub expansion_step : Option (List ℕ) → Tree-F Element → Becomes
expansion_step base Tree-F.Null place = give None
expansion_step base (Tree-F.Bool b) place = scalar_becomes (roll-Tree (Tree-F.Bool b)) place (held_by place.property)
expansion_step base (Tree-F.Num n) place = scalar_becomes (roll-Tree (Tree-F.Num n)) place (held_by place.property)
expansion_step base (Tree-F.Text text) place = scalar_becomes (roll-Tree (Tree-F.Text text)) place (held_by place.property)
expansion_step base (Tree-F.List items) place = list_becomes items place
expansion_step base (Tree-F.Map entries) place = map_by_way base place.way (trees_of entries) entries.0 place

-- what an element comes to, where `base` is the base URL of the document
unfoldable pub element_becomes : Option (List ℕ) → Tree → Becomes
element_becomes base = para Becomes (expansion_step base)

-- ---- a document

-- 9.1, `expand`, 8.1: a map of `@graph` alone gives its value
abbrev pub unwrapped : Tree → Tree
unwrapped tree = if is_alone (codes "@graph") (entries_of tree) then or_else (member (codes "@graph") tree) tree else tree

-- 9.1, `expand`, 5 to 8: with a fresh context and no active property; the result is a list
abbrev pub top : Option (List ℕ) → Place
top base = record { context = fresh base; property = None; way = Plain }

abbrev pub expansion : Option (List ℕ) → Tree → Answer Tree
expansion base document = element_becomes base document (top base) >>= (λ tree. give (as_list (option_map unwrapped tree)))

-- the outcome over a stock
abbrev pub expanded : Stock → Option (List ℕ) → Tree → Outcome Tree
expanded stock base document = (expansion base document).run stock
