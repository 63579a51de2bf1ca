-- IRI Compaction and Value Compaction (JSON-LD 1.1 API, 6.2.2 and 6.3.2).
use Rattle.std.specs.Prelude.{ℕ, List, [], ◌∷◌, Option, Some, None, Bool, true, false, not, ◌&&◌, ◌||◌, if◌then◌else◌, codes, length, drop, is_some, Result, Ok, Err}
use Rattle.std.specs.List.{list_any}
use Rattle.std.specs.Option.{option_or}
use Rattle.std.specs.Str.{bytes_eq}
use Rattle.ld_codes.specs.declared.code.Code.TheVariants.{IriConfusedWithPrefix}
use Rattle.ld_iri.specs.Components.{parts}
use Rattle.ld_iri.specs.Relative.{relative}
use Rattle.ld_iri.specs.Words.{is_iri}
use Rattle.ld_tree.specs.Maps.{empty, find, put}
use Rattle.ld_tree.specs.Names.{Sorted}
use Rattle.ld_tree.specs.Trees.{member}
use Rattle.ld_tree.specs.declared.tree.Tree.{Tree, out-Tree}
use Rattle.ld_tree.specs.declared.tree.Tree.TheOpen.{Tree-F}
use Rattle.ld_rec.specs.declared.def.Def.{Def}
use Rattle.ld_rec.specs.declared.stop.Stop.{Stop}
use Rattle.ld_rec.specs.declared.stop.Stop.TheVariants as stop
use Rattle.ld_rec.specs.Records.{Context, def_of, same_text}
use Rattle.ld_rec.specs.Words.{names_are_among, text_of}
use Rattle.ld_rec.specs.Kinds.{text_tree, list_of, map_of, has_entry, is_text}
use Rattle.ld_rec.specs.Places.{containers_of, type_mapping_of}
use Rattle.ld_rec.specs.Values.{language_of}
use Rattle.ld_rec.specs.Slots.{slots}
use Rattle.ld_rec.specs.Selection.{chosen}
use Rattle.ld_rec.specs.Prefixes.{is_front, by_prefix}
use Rattle.ld_rec.specs.Wishes.{Question, asked, has_index, is_reference_wish, preferred, text_at}

-- an answer, or why there is none
abbrev pub Outcome : Type 0 → Type 0
Outcome A = Result A Stop

infixl 1 ◌>>=◌
abbrev pub ◌>>=◌ : {A B : Type 0} → Outcome A → (A → Outcome B) → Outcome B
Ok a >>= next = next a
Err e >>= next = Err e

-- ---- IRI Compaction (6.2.2)

-- 5: with vocab, the rest of an IRI behind the vocabulary, where no term has that name
abbrev pub if_no_term : Context → List ℕ → Option (List ℕ)
if_no_term context suffix = if is_some (def_of context suffix) then None else Some suffix

abbrev pub by_vocabulary : Context → List ℕ → Bool → Option (List ℕ) → Option (List ℕ)
by_vocabulary context iri true (Some vocabulary) = if is_front vocabulary iri then if_no_term context (drop (length vocabulary) iri) else None
by_vocabulary context iri _ _ = None

-- 9: the scheme of an IRI without an authority is a term that may be a prefix
abbrev pub has_prefix_flag : Option Def → Bool
has_prefix_flag (Some def) = def.prefix
has_prefix_flag None = false

abbrev pub is_prefix : Context → Option (List ℕ) → Bool
is_prefix context (Some term) = has_prefix_flag (def_of context term)
is_prefix context None = false

abbrev pub is_confused : Context → List ℕ → Bool
is_confused context iri = is_iri iri && not (is_some (parts iri).authority) && is_prefix context (parts iri).scheme

-- 10: without vocab, an IRI relative to the base
abbrev pub by_base : List ℕ → Bool → Option (List ℕ) → List ℕ
by_base iri false (Some base) = if is_iri iri then relative base iri else iri
by_base iri _ _ = iri

abbrev pub given_or : Option (List ℕ) → Outcome (List ℕ) → Outcome (List ℕ)
given_or (Some text) other = Ok text
given_or None other = other

abbrev pub unless_confused : Context → List ℕ → Bool → Outcome (List ℕ)
unless_confused context iri vocab = if is_confused context iri then Err (stop.Code IriConfusedWithPrefix) else Ok (by_base iri vocab context.own.base)

-- 5 to 11: what an IRI comes to for which no term was chosen
abbrev pub by_form : Context → List ℕ → (has_value vocab : Bool) → Outcome (List ℕ)
by_form context iri has_value vocab =
    given_or (option_or (by_vocabulary context iri vocab context.own.vocab) (by_prefix context iri has_value)) (unless_confused context iri vocab)

-- 4: the term that is chosen for a question
abbrev pub term_for : Context → List ℕ → Question → Option Bool → Option (List ℕ)
term_for context iri question refers = chosen context iri question.containers question.kind (preferred question.wish refers)

-- an IRI with vocab and no value
abbrev pub name_for : Context → List ℕ → Outcome (List ℕ)
name_for context iri = given_or (term_for context iri (asked false context.own.language None) None) (by_form context iri false true)

-- some term maps to the IRI
abbrev pub is_mapped : Context → List ℕ → Bool
is_mapped context iri = list_any (λ o. bytes_eq o.0.iri iri) (slots context)

-- 4.16.1: the IRI compacts to a term that maps to it
abbrev pub mapping_of : Option Def → Option (List ℕ)
mapping_of (Some def) = def.mapping
mapping_of None = None

abbrev pub is_term_for : Context → List ℕ → List ℕ → Bool
is_term_for context iri name = same_text (mapping_of (def_of context name)) (Some iri)

abbrev pub refers_by : Context → Bool → Option (List ℕ) → Outcome (Option Bool)
refers_by context true (Some iri) = name_for context iri >>= (λ name. Ok (Some (is_term_for context iri name)))
refers_by context _ _ = Ok None

-- 4.16: asked for a value with @id alone, and only where some term maps to the IRI
abbrev pub id_of : Option Tree → Option (List ℕ)
id_of (Some value) = text_at (codes "@id") value
id_of None = None

abbrev pub refers : Context → List ℕ → Question → Option Tree → Outcome (Option Bool)
refers context iri question value = refers_by context (is_mapped context iri && is_reference_wish question.wish) (id_of value)

abbrev pub term_chosen : Context → List ℕ → Question → Option Tree → Outcome (Option (List ℕ))
term_chosen context iri question value = refers context iri question value >>= (λ refers. Ok (term_for context iri question refers))

-- 4: with vocab alone
abbrev pub selected : Context → List ℕ → Option Tree → (vocab reverse : Bool) → Outcome (Option (List ℕ))
selected context iri value true reverse = term_chosen context iri (asked reverse context.own.language value) value
selected context iri value false reverse = Ok None

unfoldable pub compact_iri : Context → List ℕ → Option Tree → (vocab reverse : Bool) → Outcome (List ℕ)
compact_iri context iri value vocab reverse =
    selected context iri value vocab reverse >>= (λ term. given_or term (by_form context iri (is_some value) vocab))

-- ---- Value Compaction (6.3.2)

-- a name, or a type
abbrev pub compact_name : Context → List ℕ → Outcome (List ℕ)
compact_name context iri = compact_iri context iri None true false

-- an identifier, with vocab or without
abbrev pub compact_id : Context → Bool → List ℕ → Outcome Tree
compact_id context vocab iri = compact_iri context iri None vocab false >>= (λ text. Ok (text_tree text))

-- 11: each name is compacted, in code point order; of names that come to one, the last counts (own). Where types
-- are given, they stand in place of the map's own
abbrev pub entry_value : Option Tree → List ℕ × Tree → Tree
entry_value (Some types) e = if bytes_eq e.0 (codes "@type") then types else e.1
entry_value None e = e.1

abbrev pub put_renamed : Context → Option Tree → List ℕ × Tree → Sorted Tree → Outcome (Sorted Tree)
put_renamed context types e made = compact_name context e.0 >>= (λ name. Ok (put made name (entry_value types e)))

abbrev pub rename : Context → Option Tree → List (List ℕ × Tree) → Sorted Tree → Outcome (Sorted Tree)
rename context types [] made = Ok made
rename context types (e ∷ es) made = put_renamed context types e made >>= (λ more. rename context types es more)

abbrev pub renamed : Context → Option Tree → Sorted Tree → Outcome Tree
renamed context types entries = rename context types entries.0 empty >>= (λ made. Ok (map_of made))

-- 8.1: types are compacted; what is no text stays
abbrev pub compact_text : Context → Tree → Option (List ℕ) → Outcome Tree
compact_text context tree (Some text) = compact_id context true text
compact_text context tree None = Ok tree

abbrev pub compact_items : Context → List Tree → Outcome (List Tree)
compact_items context [] = Ok []
compact_items context (item ∷ items) = compact_text context item (text_of item) >>= (λ name. compact_items context items >>= (λ names. Ok (name ∷ names)))

abbrev pub compact_types_in : Context → Tree → Tree-F Tree → Outcome Tree
compact_types_in context types (Tree-F.List items) = compact_items context items >>= (λ names. Ok (list_of names))
compact_types_in context types _ = compact_text context types (text_of types)

abbrev pub compact_types : Context → Tree → Outcome Tree
compact_types context types = compact_types_in context types (out-Tree types)

-- 8: the map with its types compacted, where it has any
abbrev pub with_types : Context → Sorted Tree → Option Tree → Outcome Tree
with_types context entries None = renamed context None entries
with_types context entries (Some types) = compact_types context types >>= (λ names. renamed context (Some names) entries)

-- 6: a reference is an @id alone, or with @index
abbrev pub reference_in : Tree → Sorted Tree → Option (List ℕ)
reference_in value entries = if names_are_among (codes "@id" ∷ codes "@index" ∷ []) entries then text_at (codes "@id") value else None

abbrev pub by_reference : Context → Option Def → Sorted Tree → List ℕ → Outcome Tree
by_reference context def entries iri =
    if same_text (type_mapping_of def) (Some (codes "@id")) then compact_id context false iri
    else if same_text (type_mapping_of def) (Some (codes "@vocab")) then compact_id context true iri
    else renamed context None entries

-- 7: the value's type is the type mapping
abbrev pub are_both : Option (List ℕ) → Option (List ℕ) → Bool
are_both (Some a) (Some b) = bytes_eq a b
are_both _ _ = false

abbrev pub has_own_type : Option Def → Tree → Bool
has_own_type def value = are_both (text_at (codes "@type") value) (type_mapping_of def)

-- 8: the type mapping is @none, or the value has another type
abbrev pub keeps_type : Option Def → Tree → Bool
keeps_type def value = same_text (type_mapping_of def) (Some (codes "@none")) || (has_entry (codes "@type") value && not (has_own_type def value))

-- 9 and 10: no text, or a text whose language is the property's
abbrev pub has_own_language : Context → Option Def → Tree → Tree → Bool
has_own_language context def value inner = not (is_text inner) || same_text (text_at (codes "@language") value) (language_of context def)

-- 9.1 and 10.1: there is no index that would be lost
abbrev pub keeps_index : Option Def → Tree → Bool
keeps_index def value = not (has_index value) || (containers_of def).index

abbrev pub says_all : Context → Option Def → Tree → Tree → Bool
says_all context def value inner = not (keeps_type def value) && has_own_language context def value inner && keeps_index def value

abbrev pub stays : Context → Option Def → Tree → Sorted Tree → Outcome Tree
stays context def value entries = if keeps_type def value then with_types context entries (member (codes "@type") value) else renamed context None entries

abbrev pub by_value : Context → Option Def → Tree → Sorted Tree → Option Tree → Outcome Tree
by_value context def value entries None = stays context def value entries
by_value context def value entries (Some inner) = if has_own_type def value || says_all context def value inner then Ok inner else stays context def value entries

abbrev pub by_map : Context → Option Def → Tree → Sorted Tree → Option (List ℕ) → Outcome Tree
by_map context def value entries (Some iri) = by_reference context def entries iri
by_map context def value entries None = by_value context def value entries (member (codes "@value") value)

-- what is no map stays (own: no value in expanded form is)
abbrev pub value_in : Context → Option Def → Tree → Tree-F Tree → Outcome Tree
value_in context def value (Tree-F.Map entries) = by_map context def value entries (reference_in value entries)
value_in context def value _ = Ok value

unfoldable pub compact_value : Context → List ℕ → Tree → Outcome Tree
compact_value context property value = value_in context (def_of context property) value (out-Tree value)
