-- What comes of each element, and of a document, has the expanded form.
use Rattle.std.proofs.Common.{◌≡◌, ◌∙◌, refl, ap, sym, subst, ℕ, List, [], ◌∷◌, ◌++◌, map, Bool, true, false, Option, Some, None}
use Rattle.std.specs.Prelude.{codes, if◌then◌else◌, option_map}
use Rattle.std.specs.List.{list_all}
use Rattle.std.specs.Map.{keys_of}
use Rattle.std.specs.Cmp.{first_so}
use Rattle.ld_tree.specs.Maps.{find}
use Rattle.ld_tree.specs.Names.{Sorted}
use Rattle.ld_tree.specs.Trees.{member, member_at}
use Rattle.ld_tree.specs.formers.entries.Entries.{on_value}
use Rattle.ld_tree.specs.declared.tree.Tree.{Tree, out-Tree}
use Rattle.ld_tree.specs.declared.tree.Tree.TheOpen.{Tree-F}
use Rattle.ld_tree.specs.declared.tree.Tree.TheFolds.{ind-Tree, map-Tree}
use Rattle.ld_tree.specs.declared.tree.Tree.TheViews as W
use Rattle.ld_tree.specs.declared.tree.Tree.TheViews.{roll-Tree}
use Rattle.ld_tree.proofs.Recursion.{para-roll}
use Rattle.ld_rec.specs.declared.def.Containers.{Containers}
use Rattle.ld_rec.specs.declared.way.Way.{Way}
use Rattle.ld_rec.specs.declared.way.Way.TheVariants.{Plain, FromMap, AsMap}
use Rattle.ld_rec.specs.Iris.{or_else}
use Rattle.ld_rec.specs.Outcome.{Answer, ◌>>=◌, give, each}
use Rattle.ld_rec.specs.Records.{Context}
use Rattle.ld_rec.specs.Words.{items_in as level_items}
use Rattle.ld_rec.specs.Kinds.{list_of, is_map, is_map_in, entries_of}
use Rattle.ld_rec.specs.Places.{Place, Becomes, Element, Entry, trees_of, expand_as, held_by, property_def, containers_of, with_property_scoped}
use Rattle.ld_rec.specs.Values.{value_expansion, index_item, expanded_key}
use Rattle.ld_rec.specs.Expansion.{Node, items_in, as_list, is_json, input_type, is_plain, is_alone, reverted, with_own, with_types, map_context, with_key_type, keyed_items, add_key, keyed_becomes, scalar_becomes, list_in_list, add_item, list_becomes, node_becomes, typed_becomes, map_becomes, map_by_way, expansion_step, element_becomes, unwrapped, top, expansion}
use Rattle.ld_rec.specs.Form.{in_expanded_form}
use Rattle.ld_rec.proofs.FormedHolding.{Holds, AllOf, holds_bind, holds_after, holds_each}
use Rattle.ld_rec.proofs.FormedMaps.{Item, Items, Given, fits, is_item, all_append, list_fit, formed_items, map_item, list_given, find_all, true_not_false}
use Rattle.ld_rec.proofs.FormedValues.{good_value, good_list_in_list, map_items, good_index_item}
use Rattle.ld_rec.proofs.FormedNodes.{Becoming, GoodElement, given_by, holds_so}
use Rattle.ld_rec.proofs.FormedEnds.{NodeGiven, good_node}

-- ---- a scalar, a list, the map of a container

-- what is no map doesn't come back from under `@reverse`
no_map : (t : Tree) → is_map t ≡ false → (place : Place) (o : Answer (Option Tree)) → Holds Given o → Holds (Becoming t place) o
no_map t other place o h = holds_so Given (Becoming t place) (λ u k. (k, λ is. absurd (true_not_false (sym is ∙ other)))) o h

good_scalar : (scalar : Tree) (place : Place) (property : Option (List ℕ)) → Holds Given (scalar_becomes scalar place property)
good_scalar scalar place None = λ _. refl
good_scalar scalar place (Some property) =
    holds_after Given (with_property_scoped (property_def place) place.context) (λ (context : Context). give (value_expansion context property scalar)) (λ context. λ _. good_value context property scalar)

good_item : (containers : Containers) (place : Place) (item : Element) → GoodElement item → (joined : List Tree) → Items joined → Holds Items (add_item containers place item joined)
good_item containers place item good joined h =
    holds_bind Given Items (item.1 place) (λ (tree : Option Tree). give (joined ++ items_in (option_map (list_in_list containers) tree))) (given_by item good place)
    (λ o k. λ _. all_append is_item joined (items_in (option_map (list_in_list containers) o)) h (good_list_in_list containers o k))

good_list : (items : List Element) → AllOf GoodElement items → (place : Place) → Holds Given (list_becomes items place)
good_list items good place =
    holds_bind Items Given (each (add_item (containers_of (property_def place)) place) items []) (λ (joined : List Tree). give (Some (list_of joined)))
    (holds_each GoodElement Items (add_item (containers_of (property_def place)) place) (λ item k s h. good_item (containers_of (property_def place)) place item k s h) items good [] refl) (λ joined k. λ _. list_given joined k)

abbrev GoodEntry : Entry → Type 0
GoodEntry e = GoodElement e.1

good_key : (containers : Containers) (place : Place) (e : Entry) → GoodEntry e → (joined : List Tree) → Items joined → Holds Items (add_key containers place e joined)
good_key containers place e good joined h =
    holds_after Items (with_key_type containers e.0 (map_context containers place.context))
    (λ (context : Context). expand_as FromMap e.1 context place.property >>= (λ (tree : Option Tree). give (joined ++ keyed_items place containers e.0 tree))) (λ context.
    holds_bind Given Items (expand_as FromMap e.1 context place.property) (λ (tree : Option Tree). give (joined ++ keyed_items place containers e.0 tree)) (given_by e.1 good _)
    (λ o k. λ _. all_append is_item joined (keyed_items place containers e.0 o) h
    (map_items (index_item containers e.0 (expanded_key place.context containers e.0)) (good_index_item containers e.0 (expanded_key place.context containers e.0)) (items_in o) k)))

good_keyed : (entries : List Entry) → AllOf GoodEntry entries → (place : Place) → Holds Given (keyed_becomes entries place)
good_keyed entries good place =
    holds_bind Items Given (each (add_key (containers_of (property_def place)) place) entries []) (λ (joined : List Tree). give (Some (list_of joined)))
    (holds_each GoodEntry Items (add_key (containers_of (property_def place)) place) (λ e k s h. good_key (containers_of (property_def place)) place e k s h) entries good [] refl) (λ joined k. λ _. list_given joined k)

-- ---- a map

abbrev node_of : Sorted Tree → Place → (type_context context : Context) → Node
node_of trees place type_context context = record { context = context; type_context = type_context; property = place.property; json = is_json (input_type context trees) }

good_typed : (t : Tree) (trees : Sorted Tree) (entries : List Entry) → AllOf GoodEntry entries → (place : Place) (context : Context) → Holds (Becoming t place) (typed_becomes trees entries place.property context)
good_typed t trees entries good place type_context =
    holds_after (Becoming t place) (with_types trees type_context) (λ (context : Context). node_becomes entries (node_of trees place type_context context)) (λ context.
    holds_so (NodeGiven (node_of trees place type_context context)) (Becoming t place) (λ o k. (k.0, λ _ under _. k.1 under)) (node_becomes entries (node_of trees place type_context context))
    (good_node (node_of trees place type_context context) entries good))

good_map : (base : Option (List ℕ)) (t : Tree) (trees : Sorted Tree) (entries : List Entry) → AllOf GoodEntry entries → (place : Place) → Holds (Becoming t place) (map_becomes base trees entries place)
good_map base t trees entries good place =
    holds_after (Becoming t place)
    (with_property_scoped (property_def place) (reverted place.context place.way (keys_of trees.0)) >>= with_own base (find trees (codes "@context")))
    (typed_becomes trees entries place.property) (λ context. good_typed t trees entries good place context)

good_by_way : (base : Option (List ℕ)) (t : Tree) (trees : Sorted Tree) (entries : List Entry) → AllOf GoodEntry entries → (place : Place) (way : Way) → place.way ≡ way → Holds (Becoming t place) (map_by_way base way trees entries place)
good_by_way base t trees entries good place AsMap is =
    holds_so Given (Becoming t place) (λ o k. (k, λ _ _ plain. absurd (true_not_false (sym plain ∙ ap is_plain is)))) (keyed_becomes entries place) (good_keyed entries good place)
good_by_way base t trees entries good place Plain is = good_map base t trees entries good place
good_by_way base t trees entries good place FromMap is = good_map base t trees entries good place

-- ---- a level

GoodLevel : Tree-F Element → Type 0
GoodLevel (Tree-F.List items) = AllOf GoodElement items
GoodLevel (Tree-F.Map entries) = AllOf GoodEntry entries.0
GoodLevel _ = Unit {0}

level_is_map : Tree-F Element → Bool
level_is_map (Tree-F.Map entries) = true
level_is_map _ = false

good_step : (base : Option (List ℕ)) (t : Tree) (y : Tree-F Element) → is_map t ≡ level_is_map y → GoodLevel y → (place : Place) → Holds (Becoming t place) (expansion_step base y place)
unfolding GoodLevel level_is_map
good_step base t Tree-F.Null other good place = no_map t other place (give None) (λ _. refl)
good_step base t (Tree-F.Bool b) other good place = no_map t other place (scalar_becomes (roll-Tree (Tree-F.Bool b)) place (held_by place.property)) (good_scalar (roll-Tree (Tree-F.Bool b)) place (held_by place.property))
good_step base t (Tree-F.Num n) other good place = no_map t other place (scalar_becomes (roll-Tree (Tree-F.Num n)) place (held_by place.property)) (good_scalar (roll-Tree (Tree-F.Num n)) place (held_by place.property))
good_step base t (Tree-F.Text text) other good place = no_map t other place (scalar_becomes (roll-Tree (Tree-F.Text text)) place (held_by place.property)) (good_scalar (roll-Tree (Tree-F.Text text)) place (held_by place.property))
good_step base t (Tree-F.List items) other good place = no_map t other place (list_becomes items place) (good_list items good place)
good_step base t (Tree-F.Map entries) is good place = good_by_way base t (trees_of entries) entries.0 good place place.way refl

-- ---- each element

module _ (base : Option (List ℕ)) where
  abbrev beside : Tree → Element
  beside t = (t, element_becomes base t)

  abbrev Kept : Type 0
  Kept = (t : Tree) × GoodElement (beside t)

  abbrev tree_in : Kept → Tree
  tree_in k = k.0

  good_items : (ks : List Kept) → AllOf GoodElement (map beside (map tree_in ks))
  good_items [] = tt
  good_items (k ∷ ks) = (k.1, good_items ks)

  good_entries : (es : List (List ℕ × Kept)) → AllOf GoodEntry (map (on_value beside) (map (on_value tree_in) es))
  good_entries [] = tt
  good_entries (e ∷ es) = (e.1.1, good_entries es)

  good_level : (y : Tree-F Kept) → GoodLevel (map-Tree Tree Element beside (map-Tree Kept Tree tree_in y))
  unfolding GoodLevel
  good_level (Tree-F.List ks) = good_items ks
  good_level (Tree-F.Map es) = good_entries es.0
  good_level _ = tt

  same_kind : (x : Tree-F Tree) → is_map_in x ≡ level_is_map (map-Tree Tree Element beside x)
  unfolding level_is_map
  same_kind (Tree-F.Map es) = refl
  same_kind _ = refl

  good_roll : (y : Tree-F Kept) → GoodElement (beside (roll-Tree (map-Tree Kept Tree tree_in y)))
  unfolding element_becomes
  good_roll y =
      let x : Tree-F Tree = map-Tree Kept Tree tree_in y in
      subst (λ (b : Becomes). GoodElement (roll-Tree x, b)) (sym (para-roll Becomes (expansion_step base) x))
      (λ place. good_step base (roll-Tree x) (map-Tree Tree Element beside x) (ap is_map_in (W.out-roll-Tree x) ∙ same_kind x) (good_level y) place)

  good_element : (t : Tree) → GoodElement (beside t)
  good_element = ind-Tree (λ t. GoodElement (beside t)) (λ x y is. subst (λ (v : Tree-F Tree). GoodElement (beside (roll-Tree v))) is (good_roll y))

-- ---- a document

graph_found : (t : Tree) (es : Sorted Tree) → list_all fits es.0 ≡ true → Given (Some t) → Given (Some (or_else (find es (codes "@graph")) t))
graph_found t es all h = elim (find es (codes "@graph")) as (λ o. find es (codes "@graph") ≡ o → Given (Some (or_else o t))) [
  | None ↦ λ _. h
  | Some g ↦ λ e. formed_items g (find_all fits (codes "@graph") g es.0 all e)
] refl

graph_at : (t : Tree) (y : Tree-F Tree) → t ≡ roll-Tree y → Items (level_items t y) → Given (Some t) → Given (Some (or_else (member_at (codes "@graph") y) t))
graph_at t (Tree-F.Map es) is item h = graph_found t es (first_so _ _ (first_so _ _ (map_item es (subst Item is (first_so (is_item t) true item))))) h
graph_at t _ is items h = h

unwrapped_if : (b : Bool) (t u : Tree) → Given (Some u) → Given (Some t) → Given (Some (if b then u else t))
unwrapped_if true t u h k = h
unwrapped_if false t u h k = k

good_unwrapped : (o : Option Tree) → Given o → Given (option_map unwrapped o)
good_unwrapped None h = refl
good_unwrapped (Some t) h =
    unwrapped_if (is_alone (codes "@graph") (entries_of t)) t (or_else (member (codes "@graph") t) t) (graph_at t (out-Tree t) (sym (W.roll-out-Tree t)) h h) h

abbrev InForm : Tree → Type 0
InForm t = in_expanded_form t ≡ true

-- what an expansion gives is in expanded form
pub good_expansion : (base : Option (List ℕ)) (document : Tree) → Holds InForm (expansion base document)
good_expansion base document =
    holds_bind Given InForm (element_becomes base document (top base)) (λ (tree : Option Tree). give (as_list (option_map unwrapped tree))) (given_by (beside base document) (good_element base document) (top base))
    (λ o k. λ _. list_fit (items_in (option_map unwrapped o)) (good_unwrapped o k))
