-- That compaction asks for nothing but under short IRIs.
use Rattle.std.proofs.Common.{sym, subst, ℕ, Bool, true, false, cond, List, [], ◌∷◌, map, Option, Some, None, Ok, Err}
use Rattle.std.specs.Prelude.{Result, codes}
use Rattle.std.specs.Map.{lookup}
use Rattle.std.specs.BTreeMap.{is_at}
use Rattle.std.specs.Option.{option_or}
use Rattle.std.specs.Str.{bytes_eq}
use Rattle.ld_tree.specs.Maps.{empty}
use Rattle.ld_tree.specs.Names.{Sorted, name_cmp}
use Rattle.ld_tree.specs.Trees.{member}
use Rattle.ld_tree.specs.formers.entries.Entries.{on_value}
use Rattle.ld_tree.specs.declared.tree.Tree.{Tree, out-Tree}
use Rattle.ld_tree.specs.declared.tree.Tree.TheOpen.{Tree-F}
use Rattle.ld_tree.specs.declared.tree.Tree.TheFolds.{ind-Tree, map-Tree}
use Rattle.ld_tree.specs.declared.tree.Tree.TheViews.{roll-Tree}
use Rattle.ld_tree.proofs.Recursion.{para-roll}
use Rattle.ld_rec.specs.declared.stop.Stop.{Stop}
use Rattle.ld_rec.specs.declared.stop.Stop.TheVariants as stop
use Rattle.ld_rec.specs.Records.{Context, fresh, def_of}
use Rattle.ld_rec.specs.Words.{is_among, text_of, items_of}
use Rattle.ld_rec.specs.Kinds.{list_of, map_of, is_list_object, is_graph_object}
use Rattle.ld_compact.specs.Adding.{items_at}
use Rattle.ld_compact.specs.Elements.{Way, Whole, Content, IdAlone, Place, Becomes, Item, Value, Entry, items_in, item_of, trees_of, value_at, def_at}
use Rattle.ld_compact.specs.Compaction.{told, text_at, as_list, add_item, Node, Property, property_of, put_under, id_tree, id_rule, type_rule, index_rule, unless_empty, put_rest, labelled_list, list_item, key_or_none, put_keyed, id_key, included_if_several, simple_graph, labelled_graph, whole_graph, is_simple, graph_in, graph_item, Keyed}
use Rattle.ld_compact.specs.Compaction.{by_id, taken_type, by_id_alone, by_type, by_containers, by_value, keyed_item, node_item, item_by_kind, item_under, item_rule, empty_rule, items_rule, reverse_rule, entry_rule, node_becomes, add_type, compacted_types, in_order, with_type, with_types, full_becomes, list_or_full, needed_map, value_or_map}
use Rattle.ld_compact.specs.Compaction.{given_or_needed, map_within, reverted, map_becomes, content_of, content_becomes, alone, entry_alone, by_way, list_becomes, level_becomes, level_items, compaction_step, element, own_context, graph_of, top_entries, document_becomes, compaction}
use Rattle.ld_lacks.proofs.Short.{AsksShort, AllOf, giving, failing, when, next, each_of, each_short}
use Rattle.ld_lacks.proofs.ShortExpansion.{with_local_short, with_scoped_short}

-- ---- what asks for nothing

told_short : {A : Type 0} (r : Result A Stop) → AsksShort (told r)
told_short (Ok a) = giving
told_short (Err (stop.Code code)) = failing
told_short (Err _) = failing

put_under_short : (context : Context) (keyword : List ℕ) (value : Option Tree) (result : Sorted Tree) → AsksShort (put_under context keyword value result)
put_under_short context keyword None result = giving
put_under_short context keyword (Some value) result = next (told_short _) (λ _. giving)

id_tree_short : (context : Context) (id : Option (List ℕ)) → AsksShort (id_tree context id)
id_tree_short context None = giving
id_tree_short context (Some id) = next (told_short _) (λ _. giving)

id_rule_short : (context : Context) (value : Tree) (result : Sorted Tree) → AsksShort (id_rule context value result)
id_rule_short context value result = next (id_tree_short context (text_of value)) (λ id. put_under_short context (codes "@id") id result)

type_rule_short : (arrays : Bool) (node : Node) (result : Sorted Tree) → AsksShort (type_rule arrays node result)
type_rule_short arrays node result = next (told_short _) (λ _. giving)

index_rule_short : (node : Node) (value : Tree) (result : Sorted Tree) → AsksShort (index_rule node value result)
index_rule_short node value result = when _ giving (put_under_short node.context (codes "@index") (Some value) result)

put_rest_short : (context : Context) (parts : Sorted Tree × Sorted Tree) → AsksShort (put_rest context parts)
put_rest_short context parts = put_under_short context (codes "@reverse") (unless_empty parts.1) parts.0

labelled_list_short : (context : Context) (item list : Tree) → AsksShort (labelled_list context item list)
labelled_list_short context item list = next (put_under_short context (codes "@list") (Some list) empty) (put_under_short context (codes "@index") (member (codes "@index") item))

list_item_short : (context : Context) (property : Property) (item compacted : Tree) (result : Sorted Tree) → AsksShort (list_item context property item compacted result)
list_item_short context property item compacted result = when _ giving (next (labelled_list_short context item (as_list compacted)) (λ _. giving))

key_or_none_short : (context : Context) (key : Option (List ℕ)) → AsksShort (key_or_none context key)
key_or_none_short context (Some key) = giving
key_or_none_short context None = told_short _

put_keyed_short : (context : Context) (property : Property) (key : Option (List ℕ)) (value : Tree) (result : Sorted Tree) → AsksShort (put_keyed context property key value result)
put_keyed_short context property key value result = next (key_or_none_short context key) (λ _. giving)

id_key_short : (context : Context) (id : Option (List ℕ)) → AsksShort (id_key context id)
id_key_short context (Some id) = told_short _
id_key_short context None = told_short _

included_if_several_short : (context : Context) (compacted : Tree) → AsksShort (included_if_several context compacted)
included_if_several_short context compacted = when _ (next (put_under_short context (codes "@included") (Some compacted) empty) (λ _. giving)) giving

simple_graph_short : (context : Context) (property : Property) (compacted : Tree) (result : Sorted Tree) → AsksShort (simple_graph context property compacted result)
simple_graph_short context property compacted result = next (included_if_several_short context compacted) (λ _. giving)

labelled_graph_short : (context : Context) (item compacted : Tree) → AsksShort (labelled_graph context item compacted)
labelled_graph_short context item compacted =
    next (put_under_short context (codes "@graph") (Some compacted) empty) (λ entries.
    next (id_tree_short context (text_at (codes "@id") item)) (λ id.
    next (put_under_short context (codes "@id") id entries) (put_under_short context (codes "@index") (member (codes "@index") item))))

module _ (context : Context) (property : Property) where
  whole_graph_short : (item compacted : Tree) (result : Sorted Tree) → AsksShort (whole_graph context property item compacted result)
  whole_graph_short item compacted result = next (labelled_graph_short context item compacted) (λ _. giving)

  graph_in_short : (item compacted : Tree) (result : Sorted Tree) → AsksShort (graph_in context property item compacted result)
  graph_in_short item compacted result =
      when property.containers.id (next (id_key_short context (text_at (codes "@id") item)) (λ _. giving))
      (when (is_simple item) (when property.containers.index (put_keyed_short context property (text_at (codes "@index") item) compacted result) (simple_graph_short context property compacted result)) (whole_graph_short item compacted result))

  graph_item_short : (item compacted : Tree) (result : Sorted Tree) → AsksShort (graph_item context property item compacted result)
  graph_item_short item compacted result = when _ (graph_in_short item compacted result) (whole_graph_short item compacted result)

by_id_short : (context : Context) (compacted : Tree) (level : Tree-F Tree) → AsksShort (by_id context compacted level)
by_id_short context compacted (Tree-F.Map entries) = next (told_short _) (λ _. giving)
by_id_short context compacted _ = giving

value_or_map_short : (tree : Tree) (context : Context) (property : Option (List ℕ)) → AsksShort (value_or_map tree context property)
value_or_map_short tree context property = when _ (next (told_short _) (λ _. giving)) giving

-- ---- an item

-- what an element comes to, at each place
abbrev ShortBecomes : Becomes → Type 0
ShortBecomes becomes = (place : Place) → AsksShort (becomes place)

abbrev ShortItem : Item → Type 0
ShortItem item = ShortBecomes item.1

module _ (context : Context) (property : Property) (item : Item) (within : ShortItem item) where
  by_id_alone_short : (keyed : Keyed) → AsksShort (by_id_alone context property item keyed)
  by_id_alone_short keyed = when _ (next (within _) (λ _. giving)) giving

  by_type_short : (compacted : Tree) (level : Tree-F Tree) → AsksShort (by_type context property item compacted level)
  by_type_short compacted (Tree-F.Map entries) = next (told_short _) (λ name. by_id_alone_short (taken_type name entries))
  by_type_short compacted _ = giving

  by_containers_short : (compacted : Tree) → AsksShort (by_containers context property item compacted)
  by_containers_short compacted = when property.containers.index giving (when property.containers.id (by_id_short context compacted (out-Tree compacted)) (when property.containers.types (by_type_short compacted (out-Tree compacted)) giving))

  by_value_short : (compacted : Tree) (value : Option Tree) → AsksShort (by_value context property item compacted value)
  by_value_short compacted (Some value) = giving
  by_value_short compacted None = by_containers_short compacted

  keyed_item_short : (compacted : Tree) → AsksShort (keyed_item context property item compacted)
  keyed_item_short compacted = when _ (by_value_short compacted (member (codes "@value") item.0)) (by_containers_short compacted)

  node_item_short : (compacted : Tree) (result : Sorted Tree) → AsksShort (node_item context property item compacted result)
  node_item_short compacted result = when _ (next (keyed_item_short compacted) (λ keyed. put_keyed_short context property keyed.0 keyed.1 result)) giving

  item_by_kind_short : (compacted : Tree) (result : Sorted Tree) → AsksShort (item_by_kind context property item compacted result)
  item_by_kind_short compacted result =
      when (is_list_object item.0) (list_item_short context property item.0 compacted result) (when (is_graph_object item.0) (graph_item_short context property item.0 compacted result) (node_item_short compacted result))

  item_under_short : (result : Sorted Tree) → AsksShort (item_under context property item result)
  item_under_short result = next (within _) (λ compacted. item_by_kind_short compacted result)

-- ---- an entry

abbrev ShortValue : Value → Type 0
ShortValue value = ShortBecomes value.1.0 × AllOf ShortItem value.1.1

abbrev ShortEntry : Entry → Type 0
ShortEntry e = ShortValue e.1

module _ (arrays : Bool) (node : Node) where
  item_rule_short : (expanded : List ℕ) (item : Item) → ShortItem item → (result : Sorted Tree) → AsksShort (item_rule arrays node expanded item result)
  item_rule_short expanded item within result = next (told_short _) (λ name. item_under_short node.context (property_of arrays node.context expanded name) item within result)

  empty_rule_short : (expanded : List ℕ) (result : Sorted Tree) → AsksShort (empty_rule node expanded result)
  empty_rule_short expanded result = next (told_short _) (λ _. giving)

  items_rule_short : (expanded : List ℕ) (items : List Item) → AllOf ShortItem items → (result : Sorted Tree) → AsksShort (items_rule arrays node expanded items result)
  items_rule_short expanded [] within result = empty_rule_short expanded result
  items_rule_short expanded (item ∷ items) within result = each_of ShortItem (item_rule arrays node expanded) (item_rule_short expanded) (item ∷ items) within result

  reverse_rule_short : (value : Value) → ShortValue value → (result : Sorted Tree) → AsksShort (reverse_rule arrays node value result)
  reverse_rule_short value within result = next (within.0 _) (λ tree. put_rest_short node.context _)

  entry_rule_short : (e : Entry) → ShortEntry e → (result : Sorted Tree) → AsksShort (entry_rule arrays node e result)
  entry_rule_short e within result =
      when (bytes_eq e.0 (codes "@id")) (id_rule_short node.context e.1.0 result)
      (when (bytes_eq e.0 (codes "@type")) (type_rule_short arrays node result)
      (when (bytes_eq e.0 (codes "@reverse")) (reverse_rule_short e.1 within result)
      (when (bytes_eq e.0 (codes "@index")) (index_rule_short node e.1.0 result)
      (when (is_among (codes "@language" ∷ codes "@value" ∷ []) e.0) (put_under_short node.context e.0 (Some e.1.0) result) (items_rule_short e.0 (items_in e.1) within.1 result)))))

  node_short : (entries : List Entry) → AllOf ShortEntry entries → AsksShort (node_becomes arrays entries node)
  node_short entries within = next (each_of ShortEntry (entry_rule arrays node) entry_rule_short entries within empty) (λ _. giving)

-- ---- the types and their contexts

add_type_short : (entry : Context) (type : Option (List ℕ)) (texts : List (List ℕ)) → AsksShort (add_type entry type texts)
add_type_short entry None texts = giving
add_type_short entry (Some type) texts = next (told_short _) (λ _. giving)

compacted_types_short : (entry : Context) (types : List Tree) → AsksShort (compacted_types entry types)
compacted_types_short entry types = each_short (λ type. add_type entry (text_of type)) (λ type. add_type_short entry (text_of type)) types []

with_types_short : (entry : Context) (types : List (List ℕ)) (context : Context) → AsksShort (with_types entry types context)
with_types_short entry types context = each_short (with_type entry) (λ type context. with_scoped_short (def_of entry type) false false context) (in_order types) context

-- ---- a map

abbrev ShortIn : Option Value → Type 0
ShortIn None = Unit {0}
ShortIn (Some value) = ShortValue value

looked_up : (test : List ℕ → Bool) (entries : List Entry) → AllOf ShortEntry entries → ShortIn (lookup test entries)
looked_up test [] within = tt
looked_up test (e ∷ es) within = elim (test e.0) as (λ b. ShortIn (cond b (Some e.1) (lookup test es))) [ true ↦ within.0 | false ↦ looked_up test es within.1 ]

value_at_short : (name : List ℕ) (entries : List Entry) → AllOf ShortEntry entries → ShortIn (value_at name entries)
value_at_short name entries within = looked_up (is_at (name_cmp name)) entries within

either_short : (a b : Option Value) → ShortIn a → ShortIn b → ShortIn (option_or a b)
either_short None b h k = k
either_short (Some value) b h k = h

entry_alone_short : (name : List ℕ) (value : Option Value) → ShortIn value → AllOf ShortEntry (entry_alone name value)
entry_alone_short name None h = tt
entry_alone_short name (Some value) h = (h, tt)

module _ (arrays : Bool) (tree : Tree) (entries : List Entry) (within : AllOf ShortEntry entries) where
  full_short : (entry : Context) (place : Place) → AsksShort (full_becomes arrays tree entries entry place)
  full_short entry place =
      next (compacted_types_short entry (items_at (member (codes "@type") tree))) (λ types.
      next (with_types_short entry types place.context) (λ context. node_short arrays (record { context = context; property = place.property; types = types }) entries within))

  list_or_full_short : (entry : Context) (place : Place) (list : Option Value) → ShortIn list → AsksShort (list_or_full arrays tree entries entry place list)
  list_or_full_short entry place None h = full_short entry place
  list_or_full_short entry place (Some list) h = h.0 _

  needed_map_short : (entry : Context) (place : Place) → AsksShort (needed_map arrays tree entries entry place)
  needed_map_short entry place = when _ (list_or_full_short entry place (value_at (codes "@list") entries) (value_at_short (codes "@list") entries within)) (full_short entry place)

  given_or_needed_short : (entry : Context) (place : Place) (value : Option Tree) → AsksShort (given_or_needed arrays tree entries entry place value)
  given_or_needed_short entry place (Some value) = giving
  given_or_needed_short entry place None = needed_map_short entry place

  map_within_short : (entry : Context) (place : Place) → AsksShort (map_within arrays tree entries entry place)
  map_within_short entry place = next (value_or_map_short tree place.context place.property) (given_or_needed_short entry place)

  map_short : (place : Place) → AsksShort (map_becomes arrays tree entries place)
  map_short place =
      next (with_scoped_short (def_at place.context place.property) true true (reverted place.context tree)) (λ context.
      map_within_short place.context (record { context = context; property = place.property; way = Whole }))

content_short : (content : Option Value) → ShortIn content → (place : Place) → AsksShort (content_becomes content place)
content_short None h place = giving
content_short (Some value) h place = h.0 _

by_way_short : (arrays : Bool) (way : Way) (tree : Tree) (entries : List Entry) → AllOf ShortEntry entries → (place : Place) → AsksShort (by_way arrays way tree entries place)
by_way_short arrays Whole tree entries within place = map_short arrays tree entries within place
by_way_short arrays Content tree entries within place =
    content_short (content_of entries) (either_short (value_at (codes "@list") entries) (value_at (codes "@graph") entries) (value_at_short (codes "@list") entries within) (value_at_short (codes "@graph") entries within)) place
by_way_short arrays IdAlone tree entries within place =
    map_short arrays (alone (codes "@id") (member (codes "@id") tree)) (entry_alone (codes "@id") (value_at (codes "@id") entries))
    (entry_alone_short (codes "@id") (value_at (codes "@id") entries) (value_at_short (codes "@id") entries within)) place

-- ---- a level

items_within : (values : List Value) → AllOf ShortValue values → AllOf ShortItem (map item_of values)
items_within [] within = tt
items_within (value ∷ values) within = (within.0.0, items_within values within.1)

list_short : (arrays : Bool) (items : List Item) → AllOf ShortItem items → (place : Place) → AsksShort (list_becomes arrays items place)
list_short arrays items within place = next (each_of ShortItem (add_item place) (λ _ within _. next (within _) (λ _. giving)) items within []) (λ _. giving)

ShortLevel : Tree-F Value → Type 0
ShortLevel (Tree-F.List values) = AllOf ShortValue values
ShortLevel (Tree-F.Map entries) = AllOf ShortEntry entries.0
ShortLevel _ = Unit {0}

becomes_short : (arrays : Bool) (level : Tree-F Value) → ShortLevel level → (place : Place) → AsksShort (level_becomes arrays level place)
unfolding ShortLevel
becomes_short arrays Tree-F.Null within place = giving
becomes_short arrays (Tree-F.Bool b) within place = giving
becomes_short arrays (Tree-F.Num n) within place = giving
becomes_short arrays (Tree-F.Text text) within place = giving
becomes_short arrays (Tree-F.List values) within place = list_short arrays (map item_of values) (items_within values within) place
becomes_short arrays (Tree-F.Map entries) within place = by_way_short arrays place.way (map_of (trees_of entries)) entries.0 within place

items_short : (level : Tree-F Value) → ShortLevel level → AllOf ShortItem (level_items level)
unfolding ShortLevel
items_short (Tree-F.List values) within = items_within values within
items_short _ within = tt

-- ---- each element

module _ (arrays : Bool) where
  abbrev beside : Tree → Value
  beside t = (t, element arrays t)

  abbrev Kept : Type 0
  Kept = (t : Tree) × ShortValue (beside t)

  abbrev tree_in : Kept → Tree
  tree_in k = k.0

  values_short : (ks : List Kept) → AllOf ShortValue (map beside (map tree_in ks))
  values_short [] = tt
  values_short (k ∷ ks) = (k.1, values_short ks)

  entries_short : (es : List (List ℕ × Kept)) → AllOf ShortEntry (map (on_value beside) (map (on_value tree_in) es))
  entries_short [] = tt
  entries_short (e ∷ es) = (e.1.1, entries_short es)

  level_short : (y : Tree-F Kept) → ShortLevel (map-Tree Tree Value beside (map-Tree Kept Tree tree_in y))
  unfolding ShortLevel
  level_short (Tree-F.List ks) = values_short ks
  level_short (Tree-F.Map es) = entries_short es.0
  level_short _ = tt

  roll_short : (y : Tree-F Kept) → ShortValue (beside (roll-Tree (map-Tree Kept Tree tree_in y)))
  unfolding element
  roll_short y =
      let x : Tree-F Tree = map-Tree Kept Tree tree_in y in
      let level : Tree-F Value = map-Tree Tree Value beside x in
      subst (λ (b : Becomes × List Item). ShortValue (roll-Tree x, b)) (sym (para-roll (Becomes × List Item) (compaction_step arrays) x)) (becomes_short arrays level (level_short y), items_short level (level_short y))

  element_short : (t : Tree) → ShortValue (beside t)
  element_short = ind-Tree (λ t. ShortValue (beside t)) (λ x y is. subst (λ (v : Tree-F Tree). ShortValue (beside (roll-Tree v))) is (roll_short y))

-- ---- a document

graph_of_short : (context : Context) (items : List Tree) → AsksShort (graph_of context items)
graph_of_short context [] = giving
graph_of_short context (item ∷ items) = put_under_short context (codes "@graph") (Some (list_of (item ∷ items))) empty

top_entries_short : (context : Context) (tree : Tree) (level : Tree-F Tree) → AsksShort (top_entries context tree level)
top_entries_short context tree (Tree-F.Map entries) = giving
top_entries_short context tree _ = graph_of_short context (items_of tree)

document_short : (arrays : Bool) (expanded local : Tree) (context : Context) → AsksShort (document_becomes arrays expanded local context)
document_short arrays expanded local context = next ((element_short arrays expanded).0 _) (λ tree. next (top_entries_short context tree (out-Tree tree)) (λ _. giving))

pub compaction_short : (expanded context : Tree) (base : Option (List ℕ)) (arrays : Bool) → AsksShort (compaction expanded context base arrays)
compaction_short expanded context base arrays = next (with_local_short (Some (own_context context)) base false true (fresh base)) (document_short arrays expanded (own_context context))
