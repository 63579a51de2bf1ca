-- The expanded form: the shape of what expansion gives, on which compaction and flattening may rely.
use Rattle.std.specs.Prelude.{ℕ, Bool, true, false, not, ◌&&◌, ◌||◌, if◌then◌else◌, List, [], ◌∷◌, Option, Some, None, codes}
use Rattle.std.specs.List.{list_any, list_all}
use Rattle.std.specs.Map.{keys_of}
use Rattle.std.specs.Str.{bytes_eq}
use Rattle.ld_tree.specs.Maps.{find}
use Rattle.ld_tree.specs.Names.{Sorted}
use Rattle.ld_tree.specs.Recursion.{para}
use Rattle.ld_tree.specs.declared.tree.Tree.{Tree}
use Rattle.ld_tree.specs.declared.tree.Tree.TheOpen.{Tree-F}
use Rattle.ld_rec.specs.Words.{is_among, items_of}
use Rattle.ld_rec.specs.Kinds.{is_text, is_list, is_map, entries_of, is_node_object}
use Rattle.ld_rec.specs.Expansion.{has_colon, is_no_subject}

-- a value within, beside whether it has the form
abbrev pub Formed : Type 0
Formed = Tree × Bool

-- ---- what may stand under a name

abbrev pub text_names : List (List ℕ)
text_names = codes "@id" ∷ codes "@index" ∷ codes "@language" ∷ []

abbrev pub list_names : List (List ℕ)
list_names = codes "@graph" ∷ codes "@included" ∷ codes "@list" ∷ []

-- a list of maps that have the form
abbrev pub is_formed_list : Formed → Bool
is_formed_list value = is_list value.0 && value.1

-- under `@reverse`: a map from properties to what can be at their other end
abbrev pub is_reverse_entry : List ℕ × Tree → Bool
is_reverse_entry e = has_colon e.0 && not (list_any is_no_subject (items_of e.1))

abbrev pub is_reverse_map : Formed → Bool
is_reverse_map value = is_map value.0 && value.1 && list_all is_reverse_entry (entries_of value.0).0

-- a text; one text or several; anything; a reverse map; a list of node objects; a list
abbrev pub is_fit : List ℕ → Formed → Bool
is_fit name value =
    if is_among text_names name then is_text value.0
    else if bytes_eq name (codes "@type") then list_all is_text (items_of value.0)
    else if bytes_eq name (codes "@value") then true
    else if bytes_eq name (codes "@reverse") then is_reverse_map value
    else if bytes_eq name (codes "@included") then is_formed_list value && list_all is_node_object (items_of value.0)
    else (is_among list_names name || has_colon name) && is_formed_list value

abbrev pub is_fit_entry : List ℕ × Formed → Bool
is_fit_entry e = is_fit e.0 e.1

-- ---- value objects, list objects and node objects

abbrev pub are_among : List (List ℕ) → List (List ℕ) → Bool
are_among allowed names = list_all (is_among allowed) names

abbrev pub value_object_names : List (List ℕ)
value_object_names = codes "@id" ∷ codes "@index" ∷ codes "@language" ∷ codes "@type" ∷ codes "@value" ∷ []

abbrev pub list_object_names : List (List ℕ)
list_object_names = codes "@id" ∷ codes "@index" ∷ codes "@list" ∷ codes "@type" ∷ []

-- with `@value` or `@list` nothing but these: an `@id` and types that a container adds may stand there too
abbrev pub is_of_a_kind : List (List ℕ) → Bool
is_of_a_kind names =
    if is_among names (codes "@value") then are_among value_object_names names
    else if is_among names (codes "@list") then are_among list_object_names names
    else true

-- but for a value object's, types are a list
abbrev pub is_listed_in : Option Formed → Bool
is_listed_in None = true
is_listed_in (Some types) = is_list types.0

abbrev pub has_listed_types : Sorted Formed → Bool
has_listed_types entries = is_among (keys_of entries.0) (codes "@value") || is_listed_in (find entries (codes "@type"))

-- ---- the form

abbrev pub is_formed_map : Formed → Bool
is_formed_map item = is_map item.0 && item.1

abbrev pub form_step : Tree-F Formed → Bool
form_step (Tree-F.List items) = list_all is_formed_map items
form_step (Tree-F.Map entries) = list_all is_fit_entry entries.0 && is_of_a_kind (keys_of entries.0) && has_listed_types entries
form_step _ = false

unfoldable pub has_form : Tree → Bool
has_form = para Bool form_step

-- a document in expanded form is a list of maps
abbrev pub in_expanded_form : Tree → Bool
in_expanded_form document = is_list document && has_form document
