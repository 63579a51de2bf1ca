-- Value Compaction of a node that has more than a reference has: a map, or the refusal of a type or a name.
use Rattle.std.proofs.Common.{◌≡◌, ◌∙◌, refl, sym, ap, subst, ℕ, Bool, true, false, List, [], ◌∷◌, Option, Some, None, Ok, Err}
use Rattle.std.specs.Prelude.{if◌then◌else◌, is_some, option_and_then, codes, not, ◌||◌, ◌&&◌}
use Rattle.ld_tree.specs.Maps.{empty, put}
use Rattle.ld_tree.specs.Names.{Sorted}
use Rattle.ld_tree.specs.Trees.{member}
use Rattle.ld_tree.specs.declared.tree.Tree.{Tree, out-Tree}
use Rattle.ld_tree.specs.declared.tree.Tree.TheOpen.{Tree-F}
use Rattle.ld_tree.specs.declared.tree.Tree.TheViews as W
use Rattle.ld_rec.specs.declared.def.Def.{Def}
use Rattle.ld_rec.specs.Kinds.{map_of, list_of, entries_in, is_scalar, is_scalar_in}
use Rattle.ld_rec.specs.Places.{type_mapping_of}
use Rattle.ld_rec.specs.Records.{Context, def_of, same_text}
use Rattle.ld_rec.specs.Wishes.{text_at}
use Rattle.ld_rec.specs.Words.{text_of, items_in, names_are_among}
use Rattle.ld_rec.specs.Compacting.{Outcome, ◌>>=◌, compact_name, rename, renamed, entry_value, compact_text, compact_items, compact_types, compact_types_in, with_types, are_both, by_value, by_map, value_in, compact_value}
use Rattle.ld_compact.specs.Adding.{items_at}
use Rattle.ld_compact.specs.Renaming.{is_full, check_name, check_type, check_types, check_names, check_node}

-- ---- the refusal, without a value

abbrev pub forgotten : {A : Type 0} → Outcome A → Outcome (Unit {0})
forgotten (Ok a) = Ok tt
forgotten (Err e) = Err e

forgotten_then : {A B : Type 0} (r : Outcome A) (f : A → Outcome B) (o : Outcome (Unit {0})) → ((a : A) → forgotten (f a) ≡ o) → forgotten (r >>= f) ≡ (forgotten r >>= (λ done. o))
forgotten_then (Ok a) f o h = h a
forgotten_then (Err e) f o h = refl

forgotten_given : {A B : Type 0} (r : Outcome A) (f : A → B) → forgotten (r >>= (λ a. Ok (f a))) ≡ forgotten r
forgotten_given (Ok a) f = refl
forgotten_given (Err e) f = refl

nothing_more : (r : Outcome (Unit {0})) → r ≡ (r >>= (λ done. Ok tt))
nothing_more (Ok done) = refl
nothing_more (Err e) = refl

forgotten_name : (context : Context) (name : List ℕ) → forgotten (compact_name context name) ≡ check_name context name
forgotten_name context name = elim (compact_name context name) as (λ r. forgotten r ≡ (r >>= (λ text. Ok tt))) [ Ok text ↦ refl | Err e ↦ refl ]

module _ (context : Context) where
  rename_refuses : (types : Option Tree) (es : List (List ℕ × Tree)) (made : Sorted Tree) → forgotten (rename context types es made) ≡ check_names context es
  rename_refuses types [] made = refl
  rename_refuses types (e ∷ es) made =
      elim (compact_name context e.0) as (λ r. forgotten ((r >>= (λ name. Ok (put made name (entry_value types e)))) >>= (λ more. rename context types es more)) ≡ ((r >>= (λ text. Ok tt)) >>= (λ done. check_names context es))) [
        | Ok name ↦ rename_refuses types es (put made name (entry_value types e))
        | Err e ↦ refl
      ]

  renamed_refuses : (types : Option Tree) (entries : Sorted Tree) → forgotten (renamed context types entries) ≡ check_names context entries.0
  renamed_refuses types entries = forgotten_given (rename context types entries.0 empty) map_of ∙ rename_refuses types entries.0 empty

  text_refuses : (tree : Tree) (text : Option (List ℕ)) → forgotten (compact_text context tree text) ≡ check_type context text
  text_refuses tree (Some text) = forgotten_given (compact_name context text) _ ∙ forgotten_name context text
  text_refuses tree None = refl

  items_refuse : (items : List Tree) → forgotten (compact_items context items) ≡ check_types context items
  items_refuse [] = refl
  items_refuse (item ∷ items) =
      forgotten_then (compact_text context item (text_of item)) (λ name. compact_items context items >>= (λ names. Ok (name ∷ names))) (check_types context items)
      (λ name. forgotten_given (compact_items context items) (λ names. name ∷ names) ∙ items_refuse items)
      ∙ ap (λ (r : Outcome (Unit {0})). r >>= (λ done. check_types context items)) (text_refuses item (text_of item))

  single_refuses : (types : Tree) → forgotten (compact_text context types (text_of types)) ≡ check_types context (types ∷ [])
  single_refuses types = text_refuses types (text_of types) ∙ nothing_more (check_type context (text_of types))

  types_refuse : (types : Tree) (y : Tree-F Tree) → forgotten (compact_types_in context types y) ≡ check_types context (items_in types y)
  types_refuse types (Tree-F.List items) = forgotten_given (compact_items context items) list_of ∙ items_refuse items
  types_refuse types (Tree-F.Map entries) = single_refuses types
  types_refuse types (Tree-F.Text text) = single_refuses types
  types_refuse types (Tree-F.Num n) = single_refuses types
  types_refuse types (Tree-F.Bool b) = single_refuses types
  types_refuse types Tree-F.Null = single_refuses types

  with_types_refuses : (entries : Sorted Tree) (types : Option Tree) → forgotten (with_types context entries types) ≡ (check_types context (items_at types) >>= (λ done. check_names context entries.0))
  with_types_refuses entries None = renamed_refuses None entries
  with_types_refuses entries (Some types) =
      forgotten_then (compact_types context types) (λ names. renamed context (Some names) entries) (check_names context entries.0) (λ names. renamed_refuses (Some names) entries)
      ∙ ap (λ (r : Outcome (Unit {0})). r >>= (λ done. check_names context entries.0)) (types_refuse types (out-Tree types))

-- ---- the map

abbrev pub NoScalar : Outcome Tree → Type 0
NoScalar (Ok tree) = is_scalar tree ≡ false
NoScalar (Err e) = Unit {0}

no_scalar_then : {A : Type 0} (r : Outcome A) (f : A → Outcome Tree) → ((a : A) → NoScalar (f a)) → NoScalar (r >>= f)
no_scalar_then (Ok a) f h = h a
no_scalar_then (Err e) f h = tt

renamed_is_map : (context : Context) (types : Option Tree) (entries : Sorted Tree) → NoScalar (renamed context types entries)
renamed_is_map context types entries = no_scalar_then (rename context types entries.0 empty) _ (λ made. ap is_scalar_in (W.out-roll-Tree (Tree-F.Map made)))

with_types_is_map : (context : Context) (entries : Sorted Tree) (types : Option Tree) → NoScalar (with_types context entries types)
with_types_is_map context entries None = renamed_is_map context None entries
with_types_is_map context entries (Some types) = no_scalar_then (compact_types context types) _ (λ names. renamed_is_map context (Some names) entries)

-- ---- a node

-- which of the two ways is taken, there is no difference where the types are no single text
abbrev Comes : Context → Sorted Tree → Option Tree → Outcome Tree → Type 0
Comes context entries types r = NoScalar r × (forgotten r ≡ (check_types context (items_at types) >>= (λ done. check_names context entries.0)))

with_types_comes : (context : Context) (entries : Sorted Tree) (types : Option Tree) → Comes context entries types (with_types context entries types)
with_types_comes context entries types = (with_types_is_map context entries types, with_types_refuses context entries types)

stays_comes : (context : Context) (entries : Sorted Tree) (none : Bool) (mapping : Option (List ℕ)) (types : Option Tree) → option_and_then text_of types ≡ None
    → Comes context entries types (if none || (is_some types && not (are_both (option_and_then text_of types) mapping)) then with_types context entries types else renamed context None entries)
stays_comes context entries true mapping types h = with_types_comes context entries types
stays_comes context entries false mapping None h = with_types_comes context entries None
stays_comes context entries false mapping (Some tree) h =
    subst (λ (o : Option (List ℕ)). Comes context entries (Some tree) (if not (are_both o mapping) then with_types context entries (Some tree) else renamed context None entries)) (sym h) (with_types_comes context entries (Some tree))

no_some : {A : Type 0} (o : Option A) → is_some o ≡ false → o ≡ None
no_some None e = refl
no_some (Some a) e = cc

record Full (value no_types no_reference : Bool) : Type 0 where
  no_value : value ≡ false
  no_text : no_types ≡ false
  more : no_reference ≡ false

full_parts : (a b c : Bool) → not (a || b || c) ≡ true → Full a b c
full_parts false false false e = record { no_value = refl; no_text = refl; more = refl }
full_parts true b c e = cc
full_parts false true c e = cc
full_parts false false true e = cc

value_comes : (context : Context) (def : Option Def) (value : Tree) (entries : Sorted Tree) → Full (is_some (member (codes "@value") value)) (is_some (text_at (codes "@type") value)) (names_are_among (codes "@id" ∷ codes "@index" ∷ []) entries)
    → Comes context entries (member (codes "@type") value) (value_in context def value (Tree-F.Map entries))
value_comes context def value entries full =
    subst (λ (b : Bool). Comes context entries (member (codes "@type") value) (by_map context def value entries (if b then text_at (codes "@id") value else None))) (sym full.more)
    (subst (λ (o : Option Tree). Comes context entries (member (codes "@type") value) (by_value context def value entries o)) (sym (no_some (member (codes "@value") value) full.no_value))
    (stays_comes context entries (same_text (type_mapping_of def) (Some (codes "@none"))) (type_mapping_of def) (member (codes "@type") value) (no_some (text_at (codes "@type") value) full.no_text)))

-- by the value itself
abbrev pub IsNode : Context → Tree → Outcome Tree → Type 0
IsNode context value r = NoScalar r × (forgotten r ≡ check_node context value)

no_reference_in : (value : Tree) (y : Tree-F Tree) → out-Tree value ≡ y → names_are_among (codes "@id" ∷ codes "@index" ∷ []) (entries_in y) ≡ false → (context : Context) (def : Option Def)
    → Full (is_some (member (codes "@value") value)) (is_some (text_at (codes "@type") value)) false → IsNode context value (value_in context def value y)
no_reference_in value (Tree-F.Map entries) e h context def full =
    subst (λ (s : Sorted Tree). NoScalar (value_in context def value (Tree-F.Map entries)) × (forgotten (value_in context def value (Tree-F.Map entries)) ≡ (check_types context (items_at (member (codes "@type") value)) >>= (λ done. check_names context s.0)))) (sym (ap entries_in e))
    (value_comes context def value entries (record { no_value = full.no_value; no_text = full.no_text; more = h }))
no_reference_in value (Tree-F.List items) e h context def full = cc
no_reference_in value (Tree-F.Text text) e h context def full = cc
no_reference_in value (Tree-F.Num n) e h context def full = cc
no_reference_in value (Tree-F.Bool b) e h context def full = cc
no_reference_in value Tree-F.Null e h context def full = cc

pub compact_value_is : (context : Context) (property : List ℕ) (value : Tree) → is_full value ≡ true → IsNode context value (compact_value context property value)
unfolding compact_value
compact_value_is context property value e =
    let full = full_parts (is_some (member (codes "@value") value)) (is_some (text_at (codes "@type") value)) (names_are_among (codes "@id" ∷ codes "@index" ∷ []) (entries_in (out-Tree value))) e in
    no_reference_in value (out-Tree value) refl full.more context (def_of context property) (record { no_value = full.no_value; no_text = full.no_text; more = refl })
