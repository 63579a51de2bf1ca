-- What the terms of a context offer: Inverse Context Creation (JSON-LD 1.1 API, 4.3), as a list.
use Rattle.std.specs.Prelude.{ℕ, List, [], ◌∷◌, Option, Some, None, Bool, true, false, ◌||◌, if◌then◌else◌, map, count_by, nat_lt, nat_le, codes}
use Rattle.std.specs.BTreeSet.{insert_key}
use Rattle.std.specs.List.{flat_map}
use Rattle.std.specs.Map.{keys_of}
use Rattle.std.specs.Option.{unwrap_or}
use Rattle.std.specs.Ordering.{nat_cmp, ordering_then}
use Rattle.std.specs.Str.{bytes_eq}
use Rattle.std.specs.declared.cmp.Ordering.{Ordering}
use Rattle.ld_tree.specs.Names.{name_cmp}
use Rattle.ld_rec.specs.declared.def.Containers.{Containers}
use Rattle.ld_rec.specs.declared.def.Def.{Def}
use Rattle.ld_rec.specs.declared.slot.Kind.{Kind}
use Rattle.ld_rec.specs.declared.slot.Kind.TheVariants.{Any, Tag, Typed}
use Rattle.ld_rec.specs.declared.slot.Slot.{Slot}
use Rattle.ld_rec.specs.Records.{Context, def_of}

-- ---- the terms, shortest first

-- a byte that doesn't continue a character (RFC 3629, section 3)
abbrev pub begins_character : ℕ → Bool
begins_character byte = nat_lt byte 128 || nat_le 192 byte

abbrev pub characters : List ℕ → ℕ
characters text = count_by begins_character text

-- 3: by the number of characters, ties in code point order
abbrev pub term_cmp : List ℕ → List ℕ → Ordering
term_cmp a b = ordering_then (nat_cmp (characters a) (characters b)) (name_cmp a b)

abbrev pub shortest_first : List (List ℕ) → List (List ℕ)
shortest_first [] = []
shortest_first (term ∷ terms) = insert_key term_cmp (shortest_first terms) term

abbrev pub terms_of : Context → List (List ℕ)
terms_of context = shortest_first (keys_of context.own.terms.0)

-- ---- what a definition offers

-- 3.17: with neither a type mapping nor a language mapping
abbrev pub by_default : List ℕ → List (Kind × List ℕ)
by_default language = (Tag, language) ∷ (Tag, codes "@none") ∷ (Typed, codes "@none") ∷ []

-- 3.14: a language mapping
abbrev pub by_language : Option (List ℕ) → Option (Option (List ℕ)) → List (Kind × List ℕ)
by_language default (Some (Some tag)) = (Tag, tag) ∷ []
by_language default (Some None) = (Tag, codes "@null") ∷ []
by_language default None = by_default (unwrap_or default (codes "@none"))

-- 3.11 and 3.12: a type mapping
abbrev pub by_type : Bool → List ℕ → List (Kind × List ℕ)
by_type true typed = (Typed, codes "@any") ∷ (Tag, codes "@any") ∷ []
by_type false typed = (Typed, typed) ∷ []

abbrev pub by_mappings : Option (List ℕ) → Option (List ℕ) → Option (Option (List ℕ)) → List (Kind × List ℕ)
by_mappings default (Some typed) language = by_type (bytes_eq typed (codes "@none")) typed
by_mappings default None language = by_language default language

-- 3.10: a reverse property
abbrev pub by_direction : Bool → Option (List ℕ) → Def → List (Kind × List ℕ)
by_direction true default def = (Typed, codes "@reverse") ∷ []
by_direction false default def = by_mappings default def.typed def.language

-- each kind and value that a definition offers, under a default language
abbrev pub offers : Option (List ℕ) → Def → List (Kind × List ℕ)
offers default def = (Any, codes "@none") ∷ by_direction def.reverse default def

-- ---- what a context offers

-- a slot, with a term that offers it
abbrev pub Offer : Type 0
Offer = Slot × List ℕ

abbrev pub slot : List ℕ → Containers → Kind → List ℕ → Slot
slot iri containers kind value = record { iri = iri; containers = containers; kind = kind; value = value }

-- 3.1: a term offers where its mapping isn't null
abbrev pub offered_under : Option (List ℕ) → List ℕ → Def → Option (List ℕ) → List Offer
offered_under default term def (Some iri) = map (λ o. (slot iri def.containers o.0 o.1, term)) (offers default def)
offered_under default term def None = []

abbrev pub offered : Option (List ℕ) → List ℕ → Option Def → List Offer
offered default term (Some def) = offered_under default term def def.mapping
offered default term None = []

-- what each term offers, the shortest term first
abbrev pub slots : Context → List Offer
slots context = flat_map (λ term. offered context.own.language term (def_of context term)) (terms_of context)
