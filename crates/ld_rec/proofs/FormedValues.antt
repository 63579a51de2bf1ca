-- The values that expansion makes have the expanded form.
use Rattle.std.proofs.Common.{◌≡◌, ◌∙◌, refl, ap, sym, subst, ℕ, List, [], ◌∷◌, map, Bool, true, false, Option, Some, None}
use Rattle.std.specs.Prelude.{codes, ◌&&◌, ◌||◌, not, if◌then◌else◌, flat_map, filter_map, option_map, option_and_then}
use Rattle.std.specs.List.{list_all, cons_option}
use Rattle.std.specs.Cmp.{first_so, second_so}
use Rattle.ld_tree.specs.Maps.{find, put, empty}
use Rattle.ld_tree.specs.Names.{Sorted}
use Rattle.ld_tree.specs.declared.tree.Tree.{Tree, out-Tree}
use Rattle.ld_tree.specs.declared.tree.Tree.TheOpen.{Tree-F}
use Rattle.ld_tree.specs.declared.tree.Tree.TheViews as W
use Rattle.ld_tree.specs.declared.tree.Tree.TheViews.{roll-Tree}
use Rattle.ld_rec.specs.declared.def.Def.{Def}
use Rattle.ld_rec.specs.declared.def.Containers.{Containers}
use Rattle.ld_rec.specs.Records.{Context, def_of, same_text}
use Rattle.ld_rec.specs.Words.{items_of, text_of, has}
use Rattle.ld_rec.specs.Words.{items_in as level_items}
use Rattle.ld_rec.specs.Kinds.{list_of, text_tree, one_entry, is_list, is_text, is_graph_object}
use Rattle.ld_rec.specs.Places.{type_mapping_of}
use Rattle.ld_rec.specs.Values.{identified, typed_value, tagged_value, untyped_value, value_by, identified_or, value_expansion, identifier_of, language_of, if_datatype, language_key, language_item, language_entry, language_items, as_graph, graphed_item, put_absent, types_in, put_type, with_key, on_entries, keyed_item, index_item}
use Rattle.ld_rec.specs.Expansion.{as_list, json_value, list_object, list_in_list, listed, graphed}
use Rattle.ld_rec.proofs.FormedMaps.{Item, Items, Given, Fit, fits, is_item, is_formed, both, all_append, is_text_text, items_of_list, list_fit, item_map, map_item, one_item, item_given, list_given, list_is_list, is_listed, found_new, found_other, find_all, formed_with}

-- ---- lists

abbrev pub ItemIn : Option Tree → Type 0
ItemIn None = Unit {0}
ItemIn (Some t) = Item t

next_items : (o : Option Tree) (rest : List Tree) → ItemIn o → Items rest → Items (cons_option o rest)
next_items None rest h k = k
next_items (Some t) rest h k = both (is_item t) (list_all is_item rest) h k

pub filter_items : {X : Type 0} (f : X → Option Tree) → ((x : X) → ItemIn (f x)) → (xs : List X) → Items (filter_map f xs)
filter_items f each_item [] = refl
filter_items f each_item (x ∷ xs) = next_items (f x) (filter_map f xs) (each_item x) (filter_items f each_item xs)

pub flat_items : {X : Type 0} (f : X → List Tree) → ((x : X) → Items (f x)) → (xs : List X) → Items (flat_map f xs)
flat_items f each_list [] = refl
flat_items f each_list (x ∷ xs) = all_append is_item (f x) (flat_map f xs) (each_list x) (flat_items f each_list xs)

pub map_items : (f : Tree → Tree) → ((t : Tree) → Item t → Item (f t)) → (ts : List Tree) → Items ts → Items (map f ts)
map_items f keeps [] h = refl
map_items f keeps (t ∷ ts) h = both (is_item (f t)) (list_all is_item (map f ts)) (keeps t (first_so (is_item t) (list_all is_item ts) h)) (map_items f keeps ts (second_so (is_item t) (list_all is_item ts) h))

-- ---- Value Expansion

pub item_with : (text : List ℕ) → list_all is_text (items_of (text_tree text)) ≡ true
item_with text =
    ap (λ (y : Tree-F Tree). list_all is_text (level_items (text_tree text) y)) (W.out-roll-Tree (Tree-F.Text text))
    ∙ ap (λ (b : Bool). b && true) (is_text_text text)

pub good_id : (iri : List ℕ) → Item (one_entry (codes "@id") (text_tree iri))
good_id iri = item_map (put empty (codes "@id") (text_tree iri)) (ap (λ (b : Bool). b && true && true && true) (is_text_text iri))

good_identified : (iri : Option (List ℕ)) → Given (identified iri)
good_identified None = refl
good_identified (Some iri) = item_given (one_entry (codes "@id") (text_tree iri)) (good_id iri)

good_typed : (datatype : List ℕ) (v : Tree) → Item (typed_value datatype v)
good_typed datatype v = item_map (put (put empty (codes "@value") v) (codes "@type") (text_tree datatype)) (ap (λ (b : Bool). b && true && true && true) (item_with datatype))

pub good_tagged : (v : Tree) (tag : Option (List ℕ)) → Item (tagged_value v tag)
good_tagged v None = item_map (put empty (codes "@value") v) refl
good_tagged v (Some tag) = item_map (put (put empty (codes "@value") v) (codes "@language") (text_tree tag)) (ap (λ (b : Bool). b && true && true && true) (is_text_text tag))

good_untyped : (context : Context) (def : Option Def) (v : Tree) (text : Option (List ℕ)) → Item (untyped_value context def v text)
good_untyped context def v (Some text) = good_tagged v (language_of context def)
good_untyped context def v None = good_tagged v None

good_by : (context : Context) (def : Option Def) (v : Tree) (datatype : Option (List ℕ)) → Item (value_by context def v datatype)
good_by context def v (Some datatype) = good_typed datatype v
good_by context def v None = good_untyped context def v (text_of v)

good_or : (id : Option (Option (List ℕ))) (v : Tree) → Item v → Given (identified_or id v)
good_or (Some iri) v h = good_identified iri
good_or None v h = item_given v h

pub good_value : (context : Context) (property : List ℕ) (v : Tree) → Given (value_expansion context property v)
unfolding value_expansion
good_value context property v =
    good_or (identifier_of context (type_mapping_of (def_of context property)) (text_of v)) _ (good_by context (def_of context property) v (option_and_then if_datatype (type_mapping_of (def_of context property))))

-- ---- a language map

good_language_item : (tag : Option (List ℕ)) (item : Tree) → ItemIn (language_item tag item)
good_language_item tag item = at (text_of item)
  where
    at : (text : Option (List ℕ)) → ItemIn (option_map (λ text. tagged_value (text_tree text) tag) text)
    at None = tt
    at (Some text) = good_tagged (text_tree text) tag

pub good_language_items : (context : Context) (es : Sorted Tree) → Items (language_items context es)
good_language_items context es =
    flat_items (language_entry context) (λ e. filter_items (language_item (language_key context e.0)) (good_language_item (language_key context e.0)) (items_of e.1)) es.0

-- ---- JSON literals, list objects and graph objects

pub good_json : (v : Tree) → Item (json_value v)
good_json v = item_map (put (put empty (codes "@type") (text_tree (codes "@json"))) (codes "@value") v) (ap (λ (b : Bool). b && true && true && true) (item_with (codes "@json")))

pub good_list_object : (t : Tree) → Given (Some t) → Item (list_object t)
good_list_object t h = item_map (put empty (codes "@list") (as_list (Some t))) (ap (λ (b : Bool). b && true && true && true) (list_fit (items_of t) h))

pub good_as_graph : (t : Tree) → Item t → Item (as_graph t)
good_as_graph t h = item_map (put empty (codes "@graph") (list_of (t ∷ []))) (ap (λ (b : Bool). b && true && true && true) (list_fit (t ∷ []) (one_item t h)))

either_given : (b : Bool) (x y : Tree) → Given (Some x) → Given (Some y) → Given (Some (if b then x else y))
either_given true x y h k = h
either_given false x y h k = k

pub good_listed : (containers : Containers) (t : Tree) → Given (Some t) → Given (Some (listed containers t))
good_listed containers t h = either_given _ (list_object t) t (item_given (list_object t) (good_list_object t h)) h

pub good_list_in_list : (containers : Containers) (o : Option Tree) → Given o → Given (option_map (list_in_list containers) o)
good_list_in_list containers None h = refl
good_list_in_list containers (Some t) h = either_given (containers.list && is_list t) (list_object t) t (item_given (list_object t) (good_list_object t h)) h

pub good_graphed : (containers : Containers) (t : Tree) → Given (Some t) → Given (Some (graphed containers t))
good_graphed containers t h =
    either_given (containers.graph && not (containers.id || containers.index)) (list_of (map as_graph (items_of t))) t
    (list_given (map as_graph (items_of t)) (map_items as_graph good_as_graph (items_of t) h)) h

-- ---- an item of an index map

either_item : (b : Bool) (x y : Tree) → Item x → Item y → Item (if b then x else y)
either_item true x y h k = h
either_item false x y h k = k

good_graphed_item : (containers : Containers) (t : Tree) → Item t → Item (graphed_item containers t)
good_graphed_item containers t h = either_item (containers.graph && not (is_graph_object t)) (as_graph t) t (good_as_graph t h) h

abbrev Kept : Sorted Tree → Type 0
Kept es = is_formed es.0 ≡ true

either_kept : (b : Bool) (x y : Sorted Tree) → Kept x → Kept y → Kept (if b then x else y)
either_kept true x y h k = h
either_kept false x y h k = k

good_index : (text : Option (List ℕ)) (es : Sorted Tree) → Kept es → Kept (put_absent (codes "@index") text es)
good_index None es h = h
good_index (Some text) es h =
    either_kept (has es (codes "@index")) es (put es (codes "@index") (text_tree text)) h (formed_with (codes "@index") (text_tree text) (is_text_text text) refl refl refl refl (λ s k. ap is_listed (found_other (codes "@type") (codes "@index") (text_tree text) refl s) ∙ k) es h)

good_absent_id : (text : Option (List ℕ)) (es : Sorted Tree) → Kept es → Kept (put_absent (codes "@id") text es)
good_absent_id None es h = h
good_absent_id (Some text) es h =
    either_kept (has es (codes "@id")) es (put es (codes "@id") (text_tree text)) h (formed_with (codes "@id") (text_tree text) (is_text_text text) refl refl refl refl (λ s k. ap is_listed (found_other (codes "@type") (codes "@id") (text_tree text) refl s) ∙ k) es h)

all_fit : (es : Sorted Tree) → Kept es → list_all fits es.0 ≡ true
all_fit es h = first_so _ _ (first_so _ _ h)

texts_found : (es : Sorted Tree) → Kept es → list_all is_text (types_in (find es (codes "@type"))) ≡ true
texts_found es h = elim (find es (codes "@type")) as (λ o. find es (codes "@type") ≡ o → list_all is_text (types_in o) ≡ true) [
  | None ↦ λ _. refl
  | Some types ↦ λ e. find_all fits (codes "@type") types es.0 (all_fit es h) e
] refl

pub texts_fit : (ts : List Tree) → list_all is_text ts ≡ true → Fit (codes "@type") (list_of ts)
texts_fit ts h = ap (list_all is_text) (items_of_list ts) ∙ h

good_type : (text : Option (List ℕ)) (es : Sorted Tree) → Kept es → Kept (put_type text es)
good_type None es h = h
good_type (Some text) es h =
    formed_with (codes "@type") (list_of (text_tree text ∷ types_in (find es (codes "@type"))))
    (texts_fit (text_tree text ∷ types_in (find es (codes "@type"))) (both (is_text (text_tree text)) (list_all is_text (types_in (find es (codes "@type")))) (is_text_text text) (texts_found es h)))
    refl refl refl refl
    (λ s _. ap is_listed (found_new (codes "@type") (list_of (text_tree text ∷ types_in (find es (codes "@type")))) s refl) ∙ list_is_list (text_tree text ∷ types_in (find es (codes "@type")))) es h

good_with_key : (containers : Containers) (key : List ℕ) (expanded : Option (List ℕ)) (es : Sorted Tree) → Kept es → Kept (with_key containers key expanded es)
good_with_key containers key expanded es h =
    either_kept containers.index (put_absent (codes "@index") (Some key) es) _ (good_index (Some key) es h)
    (either_kept containers.id (put_absent (codes "@id") expanded es) _ (good_absent_id expanded es h)
    (either_kept containers.types (put_type expanded es) es (good_type expanded es h) h))

on_entries_at : (change : Sorted Tree → Sorted Tree) → ((es : Sorted Tree) → Kept es → Kept (change es)) → (t : Tree) (y : Tree-F Tree) → t ≡ roll-Tree y → Item t → Item (on_entries change t y)
on_entries_at change keeps t (Tree-F.Map es) is h = item_map (change es) (keeps es (map_item es (subst Item is h)))
on_entries_at change keeps t _ is h = h

good_keyed : (containers : Containers) (key : List ℕ) (expanded : Option (List ℕ)) (t : Tree) → Item t → Item (keyed_item containers key expanded t)
good_keyed containers key expanded t h = on_entries_at (with_key containers key expanded) (good_with_key containers key expanded) t (out-Tree t) (sym (W.roll-out-Tree t)) h

pub good_index_item : (containers : Containers) (key : List ℕ) (expanded : Option (List ℕ)) (t : Tree) → Item t → Item (index_item containers key expanded t)
good_index_item containers key expanded t h =
    either_item (same_text expanded (Some (codes "@none"))) (graphed_item containers t) (keyed_item containers key expanded (graphed_item containers t))
    (good_graphed_item containers t h) (good_keyed containers key expanded (graphed_item containers t) (good_graphed_item containers t h))
