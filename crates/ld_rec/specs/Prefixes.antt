-- The compact IRIs that the prefixes of a context give (JSON-LD 1.1 API, 6.2.2, steps 6 to 8).
use Rattle.std.specs.Prelude.{ℕ, List, [], ◌∷◌, ◌++◌, Option, Some, None, Bool, true, false, not, ◌&&◌, if◌then◌else◌, map, filter, nat_eq, nat_lt, length, drop}
use Rattle.std.specs.List.{flat_map, starts_with}
use Rattle.std.specs.Ordering.{is_gt}
use Rattle.ld_rec.specs.declared.def.Def.{Def}
use Rattle.ld_rec.specs.Records.{Context, def_of, same_text}
use Rattle.ld_rec.specs.Slots.{terms_of, term_cmp}

-- a mapping, with a term that may stand for it before a colon
abbrev pub Prefix : Type 0
Prefix = List ℕ × List ℕ

abbrev pub prefix_by : Bool → List ℕ → Option (List ℕ) → List Prefix
prefix_by true term (Some iri) = (iri, term) ∷ []
prefix_by true term None = []
prefix_by false term iri = []

abbrev pub prefix_of : List ℕ → Option Def → List Prefix
prefix_of term (Some def) = prefix_by def.prefix term def.mapping
prefix_of term None = []

-- the terms with the prefix flag, the shortest first
abbrev pub prefixes : Context → List Prefix
prefixes context = flat_map (λ term. prefix_of term (def_of context term)) (terms_of context)

-- the front begins the text and isn't all of it
abbrev pub is_front : List ℕ → List ℕ → Bool
is_front front text = starts_with nat_eq text front && nat_lt (length front) (length text)

-- 7.2: term, colon and the rest of the IRI
abbrev pub compact_form : List ℕ → Prefix → List ℕ
compact_form iri p = p.1 ++ 58 ∷ drop (length p.0) iri

-- 7.1: for each prefix that begins the IRI and isn't all of it
abbrev pub candidates : List ℕ → List Prefix → List (List ℕ)
candidates iri all = map (compact_form iri) (filter (λ p. is_front p.0 iri) all)

-- 7.3: one counts where it is no term, or where there is no value and it is a term for the IRI
abbrev pub counts_by : Option Def → List ℕ → Bool → Bool
counts_by None iri has_value = true
counts_by (Some def) iri has_value = not has_value && same_text def.mapping (Some iri)

abbrev pub counts : Context → List ℕ → Bool → List ℕ → Bool
counts context iri has_value text = counts_by (def_of context text) iri has_value

abbrev pub lesser : Option (List ℕ) → Option (List ℕ) → Option (List ℕ)
lesser (Some a) (Some b) = if is_gt (term_cmp a b) then Some b else Some a
lesser (Some a) None = Some a
lesser None b = b

-- the shortest, and of these the least
abbrev pub least : List (List ℕ) → Option (List ℕ)
least [] = None
least (text ∷ texts) = lesser (Some text) (least texts)

abbrev pub by_prefix : Context → List ℕ → Bool → Option (List ℕ)
by_prefix context iri has_value = least (filter (counts context iri has_value) (candidates iri (prefixes context)))
