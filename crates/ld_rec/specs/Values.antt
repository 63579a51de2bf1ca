-- Value Expansion (JSON-LD 1.1 API, 5.3.2), language maps (5.1.2, 13.7) and the items of index, id, type and
-- graph maps (13.8.3.7).
use Rattle.std.specs.Prelude.{ℕ, Bool, not, ◌&&◌, ◌||◌, if◌then◌else◌, List, [], ◌∷◌, filter_map, flat_map, Option, Some, None, option_map, option_and_then, codes, Result, Ok, Err}
use Rattle.std.specs.List.{list_all}
use Rattle.std.specs.Str.{bytes_eq}
use Rattle.ld_codes.specs.declared.code.Code.TheVariants.{InvalidLanguageMapValue}
use Rattle.ld_tree.specs.Maps.{find, put}
use Rattle.ld_tree.specs.Names.{Sorted}
use Rattle.ld_tree.specs.declared.tree.Tree.{Tree, out-Tree}
use Rattle.ld_tree.specs.declared.tree.Tree.TheOpen.{Tree-F}
use Rattle.ld_rec.specs.declared.def.Def.{Def}
use Rattle.ld_rec.specs.declared.def.Containers.{Containers}
use Rattle.ld_rec.specs.declared.stop.Stop.{Stop}
use Rattle.ld_rec.specs.declared.stop.Stop.TheVariants as stop
use Rattle.ld_rec.specs.Records.{Context, def_of, same_text}
use Rattle.ld_rec.specs.Words.{is_among, lowered, text_of, items_of, has}
use Rattle.ld_rec.specs.Kinds.{text_tree, list_of, map_of, one_entry, two_entries, is_null, is_text, is_graph_object}
use Rattle.ld_rec.specs.Places.{type_mapping_of, name_iri, id_iri, type_iri, means}

-- ---- Value Expansion (5.3.2)

-- 1 and 2: what a text is as an identifier, by the type mapping
abbrev pub identifier_by : Context → List ℕ → List ℕ → Option (Option (List ℕ))
identifier_by context typed text =
    if bytes_eq typed (codes "@id") then Some (id_iri context text)
    else if bytes_eq typed (codes "@vocab") then Some (type_iri context text)
    else None

abbrev pub identifier_of : Context → Option (List ℕ) → Option (List ℕ) → Option (Option (List ℕ))
identifier_of context (Some typed) (Some text) = identifier_by context typed text
identifier_of context _ _ = None

-- null where it expands to null (own)
abbrev pub identified : Option (List ℕ) → Option Tree
identified iri = option_map (λ iri. one_entry (codes "@id") (text_tree iri)) iri

-- 3 and 4: with a type mapping
abbrev pub typed_value : List ℕ → Tree → Tree
typed_value datatype value = two_entries (codes "@value") value (codes "@type") (text_tree datatype)

-- 3 and 5.3: with a language, where there is one
abbrev pub tagged_value : Tree → Option (List ℕ) → Tree
tagged_value value None = one_entry (codes "@value") value
tagged_value value (Some tag) = two_entries (codes "@value") value (codes "@language") (text_tree tag)

-- 5.1: the language mapping, which may be null; the default language only where there is none
abbrev pub language_by : Context → Option (Option (List ℕ)) → Option (List ℕ)
language_by context None = context.own.language
language_by context (Some language) = language

abbrev pub language_of : Context → Option Def → Option (List ℕ)
language_of context None = context.own.language
language_of context (Some def) = language_by context def.language

-- 5: a text has a language
abbrev pub untyped_value : Context → Option Def → Tree → Option (List ℕ) → Tree
untyped_value context def value (Some text) = tagged_value value (language_of context def)
untyped_value context def value None = tagged_value value None

-- 4: any type mapping but these is a datatype
abbrev pub is_datatype : List ℕ → Bool
is_datatype typed = not (is_among (codes "@id" ∷ codes "@none" ∷ codes "@vocab" ∷ []) typed)

abbrev pub if_datatype : List ℕ → Option (List ℕ)
if_datatype typed = if is_datatype typed then Some typed else None

-- 3 to 6
abbrev pub value_by : Context → Option Def → Tree → Option (List ℕ) → Tree
value_by context def value (Some datatype) = typed_value datatype value
value_by context def value None = untyped_value context def value (text_of value)

abbrev pub identified_or : Option (Option (List ℕ)) → Tree → Option Tree
identified_or (Some iri) value = identified iri
identified_or None value = Some value

abbrev pub value_of : Context → Option Def → Tree → Option Tree
value_of context def value =
    identified_or (identifier_of context (type_mapping_of def) (text_of value)) (value_by context def value (option_and_then if_datatype (type_mapping_of def)))

unfoldable pub value_expansion : Context → List ℕ → Tree → Option Tree
value_expansion context property value = value_of context (def_of context property) value

-- ---- a language map (13.7)

-- 13.7.4.2.3 and 13.7.4.2.4: `@none`, and what expands to it, is no language
abbrev pub language_key : Context → List ℕ → Option (List ℕ)
language_key context key = if means context (codes "@none") key then None else Some (lowered key)

-- 13.7.4.2.1 and 13.7.4.2.2
abbrev pub is_language_item : Tree → Bool
is_language_item item = is_null item || is_text item

abbrev pub is_language_entry : List ℕ × Tree → Bool
is_language_entry e = list_all is_language_item (items_of e.1)

abbrev pub is_language_map : Sorted Tree → Bool
is_language_map entries = list_all is_language_entry entries.0

-- 13.7.4.2: a text with its language; null is left out
abbrev pub language_item : Option (List ℕ) → Tree → Option Tree
language_item tag item = option_map (λ text. tagged_value (text_tree text) tag) (text_of item)

abbrev pub language_entry : Context → List ℕ × Tree → List Tree
language_entry context e = filter_map (language_item (language_key context e.0)) (items_of e.1)

abbrev pub language_items : Context → Sorted Tree → List Tree
language_items context entries = flat_map (language_entry context) entries.0

-- 13.7.1 to 13.7.4
abbrev pub language_map : Context → Sorted Tree → Result (List Tree) Stop
language_map context entries = if is_language_map entries then Ok (language_items context entries) else Err (stop.Code InvalidLanguageMapValue)

-- ---- an item of an index, id, type or graph map (13.8.3.7)

-- 13.8.3.4: the key by vocabulary; with `@id` and no `@index` document relative (13.8.3.7.4), unless it is `@none`
abbrev pub expanded_key : Context → Containers → List ℕ → Option (List ℕ)
expanded_key context containers key =
    if containers.id && not (containers.index || means context (codes "@none") key) then id_iri context key else name_iri context key

-- 13.8.3.7.1
abbrev pub as_graph : Tree → Tree
as_graph item = one_entry (codes "@graph") (list_of (item ∷ []))

abbrev pub graphed_item : Containers → Tree → Tree
graphed_item containers item = if containers.graph && not (is_graph_object item) then as_graph item else item

-- 13.8.3.7.3 and 13.8.3.7.4: where the item has no such entry, and there is something to add (own)
abbrev pub put_absent : List ℕ → Option (List ℕ) → Sorted Tree → Sorted Tree
put_absent name None entries = entries
put_absent name (Some text) entries = if has entries name then entries else put entries name (text_tree text)

-- 13.8.3.7.5: before the item's own types
abbrev pub types_in : Option Tree → List Tree
types_in (Some types) = items_of types
types_in None = []

abbrev pub put_type : Option (List ℕ) → Sorted Tree → Sorted Tree
put_type None entries = entries
put_type (Some type) entries = put entries (codes "@type") (list_of (text_tree type ∷ types_in (find entries (codes "@type"))))

-- by what the container includes, whatever the item has (own): `@index`, else `@id`, else `@type`
abbrev pub with_key : Containers → List ℕ → Option (List ℕ) → Sorted Tree → Sorted Tree
with_key containers key expanded entries =
    if containers.index then put_absent (codes "@index") (Some key) entries
    else if containers.id then put_absent (codes "@id") expanded entries
    else if containers.types then put_type expanded entries
    else entries

abbrev pub on_entries : (Sorted Tree → Sorted Tree) → Tree → Tree-F Tree → Tree
on_entries change item (Tree-F.Map entries) = map_of (change entries)
on_entries change item _ = item

abbrev pub keyed_item : Containers → List ℕ → Option (List ℕ) → Tree → Tree
keyed_item containers key expanded item = on_entries (with_key containers key expanded) item (out-Tree item)

-- 13.8.3.7: a key that is `@none` adds nothing
abbrev pub index_item : Containers → List ℕ → Option (List ℕ) → Tree → Tree
index_item containers key expanded item =
    if same_text expanded (Some (codes "@none")) then graphed_item containers item else keyed_item containers key expanded (graphed_item containers item)
