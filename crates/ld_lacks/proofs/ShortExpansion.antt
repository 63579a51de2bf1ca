-- That expansion asks for nothing but under short IRIs.
use Rattle.std.proofs.Common.{sym, subst, ℕ, Bool, true, false, List, [], ◌∷◌, map, Option, Some, None}
use Rattle.std.specs.Prelude.{◌&&◌, not, codes}
use Rattle.std.specs.Map.{keys_of}
use Rattle.ld_codes.specs.declared.keyword.Keyword.{Keyword}
use Rattle.ld_codes.specs.declared.keyword.Keyword.TheVariants as keyword
use Rattle.ld_tree.specs.Maps.{find, empty}
use Rattle.ld_tree.specs.Names.{Sorted}
use Rattle.ld_tree.specs.Trees.{member}
use Rattle.ld_tree.specs.formers.entries.Entries.{on_value}
use Rattle.ld_tree.specs.declared.tree.Tree.{Tree}
use Rattle.ld_tree.specs.declared.tree.Tree.TheOpen.{Tree-F}
use Rattle.ld_tree.specs.declared.tree.Tree.TheFolds.{ind-Tree, map-Tree}
use Rattle.ld_tree.specs.declared.tree.Tree.TheViews.{roll-Tree}
use Rattle.ld_tree.proofs.Recursion.{para-roll}
use Rattle.ld_rec.specs.declared.def.Containers.{Containers}
use Rattle.ld_rec.specs.declared.def.Def.{Def}
use Rattle.ld_rec.specs.declared.way.Way.{Way}
use Rattle.ld_rec.specs.declared.way.Way.TheVariants.{Plain, FromMap, AsMap}
use Rattle.ld_rec.specs.Records.{Context, def_of}
use Rattle.ld_rec.specs.Words.{has, text_of, items_of}
use Rattle.ld_rec.specs.Kinds.{is_null, is_text, entries_of}
use Rattle.ld_rec.specs.Places.{Place, Becomes, Element, Entry, trees_of, held_by, property_def, containers_of, with_local, with_scoped, ask_for, name_iri}
use Rattle.ld_rec.specs.Expansion.{Node, reverse_map_in, add_subjects, add_id, add_types, included, add_value, add_language, add_index, add_list, add_forward, add_backward, add_reversed, add_reverses, by_keyword, is_in_reverse, collides, add_keyword, language_list, map_or_value, add_unless_null, by_property, keyword_of, by_iri, by_expanded, by_entry}
use Rattle.ld_rec.specs.Expansion.{is_mixed, is_json_literal, value_object, is_typed_well, plain_value, set_or_list, object_of, listed_types, ended, reverted, sorted_texts, with_type, with_types_of, with_types, is_json, input_type, map_context, with_key_type, add_key, keyed_becomes, scalar_becomes, add_item, list_becomes, typed_becomes, map_becomes, map_by_way, expansion_step, element_becomes, top, expansion}
use Rattle.ld_lacks.proofs.Short.{AsksShort, AllOf, giving, failing, declining, when, next, each_of, each_short}
use Rattle.ld_lacks.proofs.ShortContexts.{process_short}

-- ---- contexts

pub with_local_short : (local : Option Tree) (base : Option (List ℕ)) (over propagate : Bool) (context : Context) → AsksShort (with_local local base over propagate context)
with_local_short None base over propagate context = giving
with_local_short (Some local) base over propagate context = process_short (ask_for context local base over propagate)

pub with_scoped_short : (def : Option Def) (over propagate : Bool) (context : Context) → AsksShort (with_scoped def over propagate context)
with_scoped_short None over propagate context = giving
with_scoped_short (Some def) over propagate context = with_local_short def.scoped def.scoped_base over propagate context

-- for the types of a map, one after another
with_types_of_short : (type_context : Context) (e : List ℕ × Tree) (context : Context) → AsksShort (with_types_of type_context e context)
with_types_of_short type_context e context =
    when _ (each_short (with_type type_context) (λ type context. with_scoped_short (def_of type_context type) false false context) (sorted_texts (items_of e.1)) context) giving

with_types_short : (trees : Sorted Tree) (type_context : Context) → AsksShort (with_types trees type_context)
with_types_short trees type_context = each_short (with_types_of type_context) (with_types_of_short type_context) trees.0 type_context

-- ---- what asks for nothing

add_subjects_short : (name : List ℕ) (items : List Tree) (result : Sorted Tree) → AsksShort (add_subjects name items result)
add_subjects_short name items result = when _ failing giving

add_id_short : (node : Node) (text : Option (List ℕ)) (result : Sorted Tree) → AsksShort (add_id node text result)
add_id_short node (Some text) result = giving
add_id_short node None result = failing

included_short : (tree : Option Tree) (result : Sorted Tree) → AsksShort (included tree result)
included_short None result = failing
included_short (Some tree) result = when _ giving failing

add_language_short : (tag : Option (List ℕ)) (result : Sorted Tree) → AsksShort (add_language tag result)
add_language_short (Some tag) result = giving
add_language_short None result = failing

add_index_short : (index : Option (List ℕ)) (result : Sorted Tree) → AsksShort (add_index index result)
add_index_short (Some index) result = giving
add_index_short None result = failing

add_backward_short : (e : List ℕ × Tree) (result : Sorted Tree) → AsksShort (add_backward e result)
add_backward_short e result = when _ giving (add_subjects_short e.0 (items_of e.1) result)

add_reversed_short : (tree : Option Tree) (result : Sorted Tree) → AsksShort (add_reversed tree result)
add_reversed_short None result = giving
add_reversed_short (Some tree) result =
    next (each_short add_forward (λ _ _. giving) (reverse_map_in (member (codes "@reverse") tree)).0 result) (each_short add_backward add_backward_short (entries_of tree).0)

add_unless_null_short : (iri : List ℕ) (def : Option Def) (tree : Option Tree) (result : Sorted Tree) → AsksShort (add_unless_null iri def tree result)
add_unless_null_short iri def None result = giving
add_unless_null_short iri def (Some tree) result = when _ (when _ failing giving) giving

plain_value_short : (value : Tree) (result : Sorted Tree) → AsksShort (plain_value value result)
plain_value_short value result = when (is_null value) giving (when (has result (codes "@language") && not (is_text value)) failing (when (is_typed_well (find result (codes "@type"))) giving failing))

value_object_short : (value : Tree) (result : Sorted Tree) → AsksShort (value_object value result)
value_object_short value result = when (is_mixed result) failing (when (is_json_literal result) giving (plain_value_short value result))

set_or_list_short : (set : Option Tree) (result : Sorted Tree) → AsksShort (set_or_list set result)
set_or_list_short (Some value) result = when _ giving failing
set_or_list_short None result = when _ (when _ giving failing) giving

object_of_short : (value : Option Tree) (result : Sorted Tree) → AsksShort (object_of value result)
object_of_short (Some value) result = value_object_short value result
object_of_short None result = set_or_list_short (find result (codes "@set")) (listed_types result)

ended_short : (property : Option (List ℕ)) (result : Sorted Tree) → AsksShort (ended property result)
ended_short property result = next (object_of_short (find result (codes "@value")) result) (λ _. giving)

-- ---- an entry of a map

-- an element within, at each place
abbrev ShortElement : Element → Type 0
ShortElement value = (place : Place) → AsksShort (value.1 place)

abbrev ShortEntry : Entry → Type 0
ShortEntry e = ShortElement e.1

module _ (node : Node) where
  add_list_short : (property : Option (List ℕ)) (value : Element) → ShortElement value → (result : Sorted Tree) → AsksShort (add_list node property value result)
  add_list_short None value within result = giving
  add_list_short (Some property) value within result = next (within _) (λ _. giving)

  add_types_short : (value : Tree) (result : Sorted Tree) → AsksShort (add_types node value result)
  add_types_short value result = when _ giving failing

  add_value_short : (value : Tree) (result : Sorted Tree) → AsksShort (add_value node value result)
  add_value_short value result = when _ giving failing

  add_reverses_short : (value : Element) → ShortElement value → (result : Sorted Tree) → AsksShort (add_reverses node value result)
  add_reverses_short value within result = when _ (next (within _) (λ tree. add_reversed_short tree result)) failing

  by_keyword_short : (k : Keyword) (value : Element) → ShortElement value → (result : Sorted Tree) → AsksShort (by_keyword node k value result)
  by_keyword_short keyword.Id value within result = add_id_short node (text_of value.0) result
  by_keyword_short keyword.Typed value within result = add_types_short value.0 result
  by_keyword_short keyword.Graph value within result = next (within _) (λ _. giving)
  by_keyword_short keyword.Included value within result = next (within _) (λ tree. included_short tree result)
  by_keyword_short keyword.Value value within result = add_value_short value.0 result
  by_keyword_short keyword.Language value within result = add_language_short (text_of value.0) result
  by_keyword_short keyword.Index value within result = add_index_short (text_of value.0) result
  by_keyword_short keyword.List value within result = add_list_short (held_by node.property) value within result
  by_keyword_short keyword.Set value within result = next (within _) (λ _. giving)
  by_keyword_short keyword.Reverse value within result = add_reverses_short value within result
  by_keyword_short keyword.Direction value within result = declining
  by_keyword_short keyword.Nest value within result = declining
  by_keyword_short _ value within result = giving

  language_list_short : (entries : Sorted Tree) → AsksShort (language_list node.context entries)
  language_list_short entries = when _ giving failing

  map_or_value_short : (name : List ℕ) (containers : Containers) (value : Element) → ShortElement value → AsksShort (map_or_value node name containers value)
  map_or_value_short name containers value within = when _ (language_list_short (entries_of value.0)) (when _ (within _) (within _))

  by_property_short : (iri name : List ℕ) (def : Option Def) (value : Element) → ShortElement value → (result : Sorted Tree) → AsksShort (by_property node iri name def value result)
  by_property_short iri name def value within result = next (when _ giving (map_or_value_short name (containers_of def) value within)) (λ tree. add_unless_null_short iri def tree result)

  add_keyword_short : (iri : List ℕ) (k : Keyword) (value : Element) → ShortElement value → (result : Sorted Tree) → AsksShort (add_keyword node iri k value result)
  add_keyword_short iri k value within result = when (is_in_reverse node) failing (when (collides iri result) failing (by_keyword_short k value within result))

  by_iri_short : (iri : List ℕ) (k : Option Keyword) (e : Entry) → ShortEntry e → (result : Sorted Tree) → AsksShort (by_iri node iri k e result)
  by_iri_short iri (Some k) e within result = add_keyword_short iri k e.1 within result
  by_iri_short iri None e within result = when _ (by_property_short iri e.0 (def_of node.context e.0) e.1 within result) giving

  by_expanded_short : (iri : Option (List ℕ)) (e : Entry) → ShortEntry e → (result : Sorted Tree) → AsksShort (by_expanded node iri e result)
  by_expanded_short None e within result = giving
  by_expanded_short (Some iri) e within result = by_iri_short iri (keyword_of iri) e within result

  by_entry_short : (e : Entry) → ShortEntry e → (result : Sorted Tree) → AsksShort (by_entry node e result)
  by_entry_short e within result = when _ giving (by_expanded_short (name_iri node.context e.0) e within result)

-- ---- an element, by its kind

scalar_short : (scalar : Tree) (place : Place) (property : Option (List ℕ)) → AsksShort (scalar_becomes scalar place property)
scalar_short scalar place None = giving
scalar_short scalar place (Some property) = next (with_scoped_short (property_def place) true true place.context) (λ _. giving)

with_key_type_short : (containers : Containers) (key : List ℕ) (context : Context) → AsksShort (with_key_type containers key context)
with_key_type_short containers key context = when _ (with_scoped_short (def_of context key) false false context) giving

add_key_short : (containers : Containers) (place : Place) (e : Entry) → ShortEntry e → (joined : List Tree) → AsksShort (add_key containers place e joined)
add_key_short containers place e within joined = next (with_key_type_short containers e.0 (map_context containers place.context)) (λ _. next (within _) (λ _. giving))

keyed_short : (entries : List Entry) → AllOf ShortEntry entries → (place : Place) → AsksShort (keyed_becomes entries place)
keyed_short entries within place =
    next (each_of ShortEntry (add_key (containers_of (property_def place)) place) (add_key_short (containers_of (property_def place)) place) entries within []) (λ _. giving)

list_short : (items : List Element) → AllOf ShortElement items → (place : Place) → AsksShort (list_becomes items place)
list_short items within place =
    next (each_of ShortElement (add_item (containers_of (property_def place)) place) (λ _ within _. next (within place) (λ _. giving)) items within []) (λ _. giving)

typed_short : (trees : Sorted Tree) (entries : List Entry) → AllOf ShortEntry entries → (property : Option (List ℕ)) (type_context : Context) → AsksShort (typed_becomes trees entries property type_context)
typed_short trees entries within property type_context =
    next (with_types_short trees type_context) (λ context.
    let node : Node = record { context = context; type_context = type_context; property = property; json = is_json (input_type context trees) } in
    next (each_of ShortEntry (by_entry node) (by_entry_short node) entries within empty) (ended_short property))

map_short : (base : Option (List ℕ)) (trees : Sorted Tree) (entries : List Entry) → AllOf ShortEntry entries → (place : Place) → AsksShort (map_becomes base trees entries place)
map_short base trees entries within place =
    next (next (with_scoped_short (property_def place) true true (reverted place.context place.way (keys_of trees.0)))
    (with_local_short (find trees (codes "@context")) base false true)) (typed_short trees entries within place.property)

by_way_short : (base : Option (List ℕ)) (way : Way) (trees : Sorted Tree) (entries : List Entry) → AllOf ShortEntry entries → (place : Place) → AsksShort (map_by_way base way trees entries place)
by_way_short base AsMap trees entries within place = keyed_short entries within place
by_way_short base Plain trees entries within place = map_short base trees entries within place
by_way_short base FromMap trees entries within place = map_short base trees entries within place

-- ---- each element

ShortLevel : Tree-F Element → Type 0
ShortLevel (Tree-F.List items) = AllOf ShortElement items
ShortLevel (Tree-F.Map entries) = AllOf ShortEntry entries.0
ShortLevel _ = Unit {0}

step_short : (base : Option (List ℕ)) (level : Tree-F Element) → ShortLevel level → (place : Place) → AsksShort (expansion_step base level place)
unfolding ShortLevel
step_short base Tree-F.Null within place = giving
step_short base (Tree-F.Bool b) within place = scalar_short (roll-Tree (Tree-F.Bool b)) place (held_by place.property)
step_short base (Tree-F.Num n) within place = scalar_short (roll-Tree (Tree-F.Num n)) place (held_by place.property)
step_short base (Tree-F.Text text) within place = scalar_short (roll-Tree (Tree-F.Text text)) place (held_by place.property)
step_short base (Tree-F.List items) within place = list_short items within place
step_short base (Tree-F.Map entries) within place = by_way_short base place.way (trees_of entries) entries.0 within place

module _ (base : Option (List ℕ)) where
  abbrev beside : Tree → Element
  beside t = (t, element_becomes base t)

  abbrev Kept : Type 0
  Kept = (t : Tree) × ShortElement (beside t)

  abbrev tree_in : Kept → Tree
  tree_in k = k.0

  items_short : (ks : List Kept) → AllOf ShortElement (map beside (map tree_in ks))
  items_short [] = tt
  items_short (k ∷ ks) = (k.1, items_short ks)

  entries_short : (es : List (List ℕ × Kept)) → AllOf ShortEntry (map (on_value beside) (map (on_value tree_in) es))
  entries_short [] = tt
  entries_short (e ∷ es) = (e.1.1, entries_short es)

  level_short : (y : Tree-F Kept) → ShortLevel (map-Tree Tree Element beside (map-Tree Kept Tree tree_in y))
  unfolding ShortLevel
  level_short (Tree-F.List ks) = items_short ks
  level_short (Tree-F.Map es) = entries_short es.0
  level_short _ = tt

  roll_short : (y : Tree-F Kept) → ShortElement (beside (roll-Tree (map-Tree Kept Tree tree_in y)))
  unfolding element_becomes
  roll_short y =
      let x : Tree-F Tree = map-Tree Kept Tree tree_in y in
      subst (λ (b : Becomes). ShortElement (roll-Tree x, b)) (sym (para-roll Becomes (expansion_step base) x)) (step_short base (map-Tree Tree Element beside x) (level_short y))

  element_short : (t : Tree) → ShortElement (beside t)
  element_short = ind-Tree (λ t. ShortElement (beside t)) (λ x y is. subst (λ (v : Tree-F Tree). ShortElement (beside (roll-Tree v))) is (roll_short y))

-- ---- a document

pub expansion_short : (base : Option (List ℕ)) (document : Tree) → AsksShort (expansion base document)
expansion_short base document = next (element_short base document (top base)) (λ _. giving)
