-- IRI Compaction and Value Compaction refuse nothing but with a code.
use Rattle.std.proofs.Common.{◌≡◌, refl, sym, subst, ℕ, Bool, true, false, List, [], ◌∷◌, Option, Some, None, Ok, Err}
use Rattle.std.specs.Prelude.{Result, if◌then◌else◌, is_some, codes, ◌||◌, ◌&&◌}
use Rattle.ld_tree.specs.Maps.{empty}
use Rattle.ld_tree.specs.Names.{Sorted}
use Rattle.ld_tree.specs.Trees.{member}
use Rattle.ld_tree.specs.declared.tree.Tree.{Tree, out-Tree}
use Rattle.ld_tree.specs.declared.tree.Tree.TheOpen.{Tree-F}
use Rattle.ld_rec.specs.declared.def.Def.{Def}
use Rattle.ld_rec.specs.declared.stop.Stop.{Stop}
use Rattle.ld_rec.specs.declared.stop.Stop.TheVariants as stop
use Rattle.ld_rec.specs.Outcome.{Stock, Gives}
use Rattle.ld_rec.specs.Places.{type_mapping_of}
use Rattle.ld_rec.specs.Records.{Context, def_of, same_text}
use Rattle.ld_rec.specs.Wishes.{asked, is_reference_wish}
use Rattle.ld_rec.specs.Words.{text_of}
use Rattle.ld_rec.specs.Compacting.{◌>>=◌, given_or, unless_confused, is_confused, by_form, name_for, is_mapped, id_of, refers_by, refers, selected, compact_iri}
use Rattle.ld_rec.specs.Compacting.{compact_id, put_renamed, rename, renamed, compact_text, compact_items, compact_types_in, compact_types, with_types, reference_in, by_reference, has_own_type, keeps_type, says_all, stays, by_value, by_map, value_in, compact_value}
use Rattle.ld_compact.specs.Compaction.{told}

abbrev pub OnlyCodes : {A : Type 0} → Result A Stop → Type 0
OnlyCodes (Ok a) = Unit {0}
OnlyCodes (Err (stop.Code code)) = Unit {0}
OnlyCodes (Err e) = ⊥

told_same : {A : Type 0} (stock : Stock) (r : Result A Stop) → OnlyCodes r → ((told r).run stock).result ≡ r
told_same stock (Ok a) h = refl
told_same stock (Err (stop.Code code)) h = refl
told_same stock (Err (stop.Own own)) h = absurd h
told_same stock (Err (stop.Missing iri)) h = absurd h
told_same stock (Err stop.NoMemory) h = absurd h

pub told_gives : {A : Type 0} (stock : Stock) (given r : Result A Stop) → OnlyCodes r → Gives given r → Gives given ((told r).run stock).result
told_gives stock given r h k = subst (λ s. Gives given s) (sym (told_same stock r h)) k

next_codes : {A B : Type 0} (r : Result A Stop) (f : A → Result B Stop) → OnlyCodes r → ((a : A) → OnlyCodes (f a)) → OnlyCodes (r >>= f)
next_codes (Ok a) f h k = k a
next_codes (Err (stop.Code code)) f h k = tt
next_codes (Err (stop.Own own)) f h k = absurd h
next_codes (Err (stop.Missing iri)) f h k = absurd h
next_codes (Err stop.NoMemory) f h k = absurd h

either : {A : Type 0} (test : Bool) (x y : Result A Stop) → OnlyCodes x → OnlyCodes y → OnlyCodes (if test then x else y)
either true x y h k = h
either false x y h k = k

-- ---- IRI Compaction

given_codes : (term : Option (List ℕ)) (other : Result (List ℕ) Stop) → OnlyCodes other → OnlyCodes (given_or term other)
given_codes (Some text) other h = tt
given_codes None other h = h

confused_codes : (context : Context) (iri : List ℕ) (vocab : Bool) → OnlyCodes (unless_confused context iri vocab)
confused_codes context iri vocab = either (is_confused context iri) _ _ tt tt

form_codes : (context : Context) (iri : List ℕ) (has_value vocab : Bool) → OnlyCodes (by_form context iri has_value vocab)
form_codes context iri has_value vocab = given_codes _ _ (confused_codes context iri vocab)

name_codes : (context : Context) (iri : List ℕ) → OnlyCodes (name_for context iri)
name_codes context iri = given_codes _ _ (form_codes context iri false true)

refers_by_codes : (context : Context) (test : Bool) (id : Option (List ℕ)) → OnlyCodes (refers_by context test id)
refers_by_codes context true (Some iri) = next_codes (name_for context iri) _ (name_codes context iri) (λ name. tt)
refers_by_codes context true None = tt
refers_by_codes context false id = tt

selected_codes : (context : Context) (iri : List ℕ) (value : Option Tree) (vocab reverse : Bool) → OnlyCodes (selected context iri value vocab reverse)
selected_codes context iri value false reverse = tt
selected_codes context iri value true reverse =
    let question = asked reverse context.own.language value in
    next_codes (refers context iri question value) _ (refers_by_codes context (is_mapped context iri && is_reference_wish question.wish) (id_of value)) (λ refers. tt)

pub iri_codes : (context : Context) (iri : List ℕ) (value : Option Tree) (vocab reverse : Bool) → OnlyCodes (compact_iri context iri value vocab reverse)
unfolding compact_iri
iri_codes context iri value vocab reverse =
    next_codes (selected context iri value vocab reverse) _ (selected_codes context iri value vocab reverse) (λ term. given_codes term _ (form_codes context iri (is_some value) vocab))

-- ---- Value Compaction

id_codes : (context : Context) (vocab : Bool) (iri : List ℕ) → OnlyCodes (compact_id context vocab iri)
id_codes context vocab iri = next_codes (compact_iri context iri None vocab false) _ (iri_codes context iri None vocab false) (λ text. tt)

rename_codes : (context : Context) (types : Option Tree) (es : List (List ℕ × Tree)) (made : Sorted Tree) → OnlyCodes (rename context types es made)
rename_codes context types [] made = tt
rename_codes context types (e ∷ es) made =
    next_codes (put_renamed context types e made) _ (next_codes (compact_iri context e.0 None true false) _ (iri_codes context e.0 None true false) (λ name. tt)) (λ more. rename_codes context types es more)

renamed_codes : (context : Context) (types : Option Tree) (entries : Sorted Tree) → OnlyCodes (renamed context types entries)
renamed_codes context types entries = next_codes (rename context types entries.0 empty) _ (rename_codes context types entries.0 empty) (λ made. tt)

text_codes : (context : Context) (tree : Tree) (text : Option (List ℕ)) → OnlyCodes (compact_text context tree text)
text_codes context tree (Some text) = id_codes context true text
text_codes context tree None = tt

items_codes : (context : Context) (items : List Tree) → OnlyCodes (compact_items context items)
items_codes context [] = tt
items_codes context (item ∷ items) =
    next_codes (compact_text context item (text_of item)) _ (text_codes context item (text_of item)) (λ name. next_codes (compact_items context items) _ (items_codes context items) (λ names. tt))

types_codes : (context : Context) (types : Tree) (y : Tree-F Tree) → OnlyCodes (compact_types_in context types y)
types_codes context types (Tree-F.List items) = next_codes (compact_items context items) _ (items_codes context items) (λ names. tt)
types_codes context types (Tree-F.Map entries) = text_codes context types (text_of types)
types_codes context types (Tree-F.Text text) = text_codes context types (text_of types)
types_codes context types (Tree-F.Num n) = text_codes context types (text_of types)
types_codes context types (Tree-F.Bool b) = text_codes context types (text_of types)
types_codes context types Tree-F.Null = text_codes context types (text_of types)

with_types_codes : (context : Context) (entries : Sorted Tree) (types : Option Tree) → OnlyCodes (with_types context entries types)
with_types_codes context entries None = renamed_codes context None entries
with_types_codes context entries (Some types) = next_codes (compact_types context types) _ (types_codes context types (out-Tree types)) (λ names. renamed_codes context (Some names) entries)

stays_codes : (context : Context) (def : Option Def) (value : Tree) (entries : Sorted Tree) → OnlyCodes (stays context def value entries)
stays_codes context def value entries = either (keeps_type def value) _ _ (with_types_codes context entries (member (codes "@type") value)) (renamed_codes context None entries)

value_codes_by : (context : Context) (def : Option Def) (value : Tree) (entries : Sorted Tree) (inner : Option Tree) → OnlyCodes (by_value context def value entries inner)
value_codes_by context def value entries None = stays_codes context def value entries
value_codes_by context def value entries (Some inner) = either (has_own_type def value || says_all context def value inner) _ _ tt (stays_codes context def value entries)

reference_codes : (context : Context) (def : Option Def) (entries : Sorted Tree) (iri : List ℕ) → OnlyCodes (by_reference context def entries iri)
reference_codes context def entries iri =
    either (same_text (type_mapping_of def) (Some (codes "@id"))) _ _ (id_codes context false iri)
    (either (same_text (type_mapping_of def) (Some (codes "@vocab"))) _ _ (id_codes context true iri) (renamed_codes context None entries))

map_codes : (context : Context) (def : Option Def) (value : Tree) (entries : Sorted Tree) (iri : Option (List ℕ)) → OnlyCodes (by_map context def value entries iri)
map_codes context def value entries (Some iri) = reference_codes context def entries iri
map_codes context def value entries None = value_codes_by context def value entries (member (codes "@value") value)

value_in_codes : (context : Context) (def : Option Def) (value : Tree) (y : Tree-F Tree) → OnlyCodes (value_in context def value y)
value_in_codes context def value (Tree-F.Map entries) = map_codes context def value entries (reference_in value entries)
value_in_codes context def value (Tree-F.List items) = tt
value_in_codes context def value (Tree-F.Text text) = tt
value_in_codes context def value (Tree-F.Num n) = tt
value_in_codes context def value (Tree-F.Bool b) = tt
value_in_codes context def value Tree-F.Null = tt

pub value_codes : (context : Context) (property : List ℕ) (value : Tree) → OnlyCodes (compact_value context property value)
unfolding compact_value
value_codes context property value = value_in_codes context (def_of context property) value (out-Tree value)
