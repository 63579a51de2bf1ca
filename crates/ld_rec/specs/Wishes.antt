-- Which containers IRI compaction tries for a value, and what it wishes for (JSON-LD 1.1 API, 6.2.2, step 4).
use Rattle.std.specs.Prelude.{ℕ, List, [], ◌∷◌, ◌++◌, Option, Some, None, Bool, true, false, not, ◌&&◌, ◌||◌, if◌then◌else◌, codes, length, nat_eq, option_and_then, is_some}
use Rattle.std.specs.Option.{unwrap_or}
use Rattle.std.specs.Str.{bytes_eq}
use Rattle.ld_tree.specs.Trees.{member}
use Rattle.ld_tree.specs.declared.tree.Tree.{Tree, out-Tree}
use Rattle.ld_tree.specs.declared.tree.Tree.TheOpen.{Tree-F}
use Rattle.ld_rec.specs.declared.def.Containers.{Containers}
use Rattle.ld_rec.specs.declared.slot.Kind.{Kind}
use Rattle.ld_rec.specs.declared.slot.Kind.TheVariants.{Any, Tag, Typed}
use Rattle.ld_rec.specs.Records.{no_containers}
use Rattle.ld_rec.specs.Words.{text_of}
use Rattle.ld_rec.specs.Kinds.{entries_of, has_entry, is_graph_object, is_list_object, is_value_object}

-- ---- container mappings

-- the mapping alone, and with @set
abbrev pub or_set : Containers → List Containers
or_set c = c ∷ (record c { set = true }) ∷ []

abbrev pub under_index : List Containers
under_index = or_set (record no_containers { index = true })

abbrev pub under_language : List Containers
under_language = or_set (record no_containers { language = true })

abbrev pub under_set : List Containers
under_set = (record no_containers { set = true }) ∷ []

abbrev pub only_if : Bool → List Containers → List Containers
only_if true containers = containers
only_if false containers = []

-- ---- what is read of a value

abbrev pub text_at : List ℕ → Tree → Option (List ℕ)
text_at name value = option_and_then text_of (member name value)

abbrev pub has_index : Tree → Bool
has_index value = has_entry (codes "@index") value

abbrev pub list_in : Tree-F Tree → List Tree
list_in (Tree-F.List items) = items
list_in _ = []

abbrev pub list_at : Option Tree → List Tree
list_at (Some tree) = list_in (out-Tree tree)
list_at None = []

-- the items of a list object
abbrev pub items_of_list : Tree → List Tree
items_of_list value = list_at (member (codes "@list") value)

-- ---- the language and the type of a list's items (4.7.4)

abbrev pub Tags : Type 0
Tags = List ℕ × List ℕ

abbrev pub tags_by : Bool → Option (List ℕ) → Option (List ℕ) → Tags
tags_by true (Some language) typed = (language, codes "@none")
tags_by true None (Some typed) = (codes "@none", typed)
tags_by true None None = (codes "@null", codes "@none")
tags_by false language typed = (codes "@none", codes "@id")

-- 4.7.4.1 to 4.7.4.3
abbrev pub tags : Tree → Tags
tags item = tags_by (is_value_object item) (text_at (codes "@language") item) (text_at (codes "@type") item)

abbrev pub if_same : List ℕ → List ℕ → List ℕ
if_same common own = if bytes_eq own common then common else codes "@none"

-- 4.7.4.6 and 4.7.4.7: what all share
abbrev pub common_type : List ℕ → List Tree → List ℕ
common_type common [] = common
common_type common (item ∷ items) = common_type (if_same common (tags item).1) items

-- 4.7.4.4 and 4.7.4.5: an item without @value changes nothing
abbrev pub common_language : List ℕ → List Tree → List ℕ
common_language common [] = common
common_language common (item ∷ items) = common_language (if is_value_object item then if_same common (tags item).0 else common) items

-- ---- the question

pub record Question : Type 0 where
  pub containers : List Containers
  pub kind : Kind
  pub wish : List ℕ

abbrev pub question : List Containers → Kind → List ℕ → Question
question containers kind wish = record { containers = containers; kind = kind; wish = wish }

-- a kind and a wish
abbrev pub Wish : Type 0
Wish = Kind × List ℕ

-- 4.7.6 to 4.7.8: the common type, unless there is none
abbrev pub wish_by : List ℕ → List ℕ → Wish
wish_by typed language = if bytes_eq typed (codes "@none") then (Tag, language) else (Typed, typed)

-- 4.7.3: for an empty list the default language is wished for
abbrev pub list_wish : Option (List ℕ) → List Tree → Wish
list_wish default [] = (Tag, unwrap_or default (codes "@none"))
list_wish default (item ∷ items) = wish_by (common_type (tags item).1 items) (common_language (tags item).0 items)

abbrev pub with_wish : List Containers → Wish → Question
with_wish containers wish = question containers wish.0 wish.1

-- 4.7: a list object; `default` is the default language
abbrev pub for_list : Option (List ℕ) → Tree → Question
for_list default value = with_wish (only_if (not (has_index value)) ((record no_containers { list = true }) ∷ [])) (list_wish default (items_of_list value))

-- 4.8: a graph object
abbrev pub graph_by_index : List Containers
graph_by_index = or_set (record no_containers { graph = true; index = true })

abbrev pub graph_by_id : List Containers
graph_by_id = or_set (record no_containers { graph = true; id = true })

abbrev pub graph_alone : List Containers
graph_alone = or_set (record no_containers { graph = true })

abbrev pub graph_containers : (index id : Bool) → List Containers
graph_containers index id =
    only_if index graph_by_index ++ only_if id graph_by_id ++ graph_alone ++ under_set
    ++ only_if (not index) graph_by_index ++ only_if (not id) graph_by_id ++ under_index

abbrev pub for_graph : (index id : Bool) → Question
for_graph index id = question (graph_containers index id) Typed (codes "@id")

-- 4.9.1: a value object, by its language without an index, or by its type
abbrev pub for_value : Bool → Option (List ℕ) → Option (List ℕ) → Question
for_value false (Some language) typed = question (under_language ++ under_set) Tag language
for_value index language (Some typed) = question under_set Typed typed
for_value index language None = question under_set Tag (codes "@null")

-- 4.9.2: anything else, and no value
abbrev pub node_containers : List Containers
node_containers = or_set (record no_containers { id = true }) ++ or_set (record no_containers { types = true }) ++ under_set

abbrev pub for_node : Question
for_node = question node_containers Typed (codes "@id")

abbrev pub for_shape : Option (List ℕ) → Tree → Question
for_shape default value =
    if is_list_object value then for_list default value
    else if is_graph_object value then for_graph (has_index value) (has_entry (codes "@id") value)
    else if is_value_object value then for_value (has_index value) (text_at (codes "@language") value) (text_at (codes "@type") value)
    else for_node

-- 4.6: a reverse property
abbrev pub for_reverse : Question
for_reverse = question under_set Typed (codes "@reverse")

abbrev pub for_value_or_reverse : Bool → Option (List ℕ) → Tree → Question
for_value_or_reverse true default value = for_reverse
for_value_or_reverse false default value = for_shape default value

-- 4.5: by the index before all others; 4.10 to 4.12: with no container, by an index, and by a language behind them
abbrev pub before_others : Tree → List Containers
before_others value = only_if (has_index value && not (is_graph_object value)) under_index

abbrev pub is_value_alone : Tree → Bool
is_value_alone value = is_value_object value && nat_eq (length (entries_of value).0) 1

abbrev pub behind_others : Tree → List Containers
behind_others value = no_containers ∷ only_if (not (has_index value)) under_index ++ only_if (is_value_alone value) under_language

abbrev pub between : List Containers → Question → List Containers → Question
between before asked after = record asked { containers = before ++ asked.containers ++ after }

-- the wish that asks what the IRI under @id compacts to (4.16)
abbrev pub is_reference_wish : List ℕ → Bool
is_reference_wish wish = bytes_eq wish (codes "@id") || bytes_eq wish (codes "@reverse")

-- 4.17: an empty list may be of any kind
abbrev pub is_empty_list : Tree → Bool
is_empty_list value = is_list_object value && nat_eq (length (items_of_list value)) 0

abbrev pub is_of_any_kind : List ℕ → Tree → Bool
is_of_any_kind wish value = is_empty_list value && not (is_reference_wish wish && is_some (text_at (codes "@id") value))

abbrev pub with_kind : Question → Tree → Question
with_kind asked value = record asked { kind = if is_of_any_kind asked.wish value then Any else asked.kind }

-- what is asked for a value, under a default language
abbrev pub asked : Bool → Option (List ℕ) → Option Tree → Question
asked reverse default (Some value) = with_kind (between (before_others value) (for_value_or_reverse reverse default value) (behind_others value)) value
asked true default None = between [] for_reverse (no_containers ∷ under_index)
asked false default None = between [] for_node (no_containers ∷ under_index)

-- ---- the preferred values (4.14 to 4.18)

-- 4.16: for a reference, by whether its IRI compacts to a term for it; 4.17: else the wish
abbrev pub by_wish : List ℕ → Option Bool → List (List ℕ)
by_wish wish (Some true) = codes "@vocab" ∷ codes "@id" ∷ codes "@none" ∷ []
by_wish wish (Some false) = codes "@id" ∷ codes "@vocab" ∷ codes "@none" ∷ []
by_wish wish None = wish ∷ codes "@none" ∷ []

-- 4.15
abbrev pub reverse_first : List ℕ → List (List ℕ)
reverse_first wish = if bytes_eq wish (codes "@reverse") then codes "@reverse" ∷ [] else []

abbrev pub preferred : List ℕ → Option Bool → List (List ℕ)
preferred wish refers = reverse_first wish ++ by_wish wish refers ++ codes "@any" ∷ []
