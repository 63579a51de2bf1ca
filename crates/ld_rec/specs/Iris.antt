-- IRI Expansion without a local context (JSON-LD 1.1 API, 5.2.2).
use Rattle.std.specs.Prelude.{ℕ, ◌==◌, Bool, true, false, ◌||◌, if◌then◌else◌, List, ◌++◌, drop, Option, Some, None, option_map, codes, nat_eq}
use Rattle.std.specs.List.{list_any, starts_with, before_first, after_first}
use Rattle.std.specs.Option.{option_or}
use Rattle.std.specs.Str.{bytes_eq}
use Rattle.ld_iri.specs.Words.{is_keyword_form, is_iri}
use Rattle.ld_iri.specs.Resolution.{resolved}
use Rattle.ld_rec.specs.declared.def.Def.{Def}
use Rattle.ld_rec.specs.Records.{Context, def_of}
use Rattle.ld_rec.specs.Words.{is_keyword}

abbrev pub is_colon : ℕ → Bool
is_colon b = b == 58

-- 6: a colon anywhere after the first character
abbrev pub has_inner_colon : List ℕ → Bool
has_inner_colon text = list_any is_colon (drop 1 text)

-- 6.1: prefix and suffix, round the first colon
unfoldable pub parts : List ℕ → Option (List ℕ × List ℕ)
parts text = if has_inner_colon text then Some (before_first is_colon text, after_first is_colon text) else None

-- 6.2: what is an IRI or a blank node identifier already
abbrev pub is_whole : List ℕ × List ℕ → Bool
is_whole p = bytes_eq p.0 (codes "_") || starts_with nat_eq p.1 (codes "//")

-- 6.4: the mapping of a prefix that may be one, and the suffix
abbrev pub joined : Option Def → List ℕ → Option (List ℕ)
joined (Some def) suffix = if def.prefix then option_map (λ iri. iri ++ suffix) def.mapping else None
joined None suffix = None

-- 6.5: what has the form of an IRI
abbrev pub if_iri : List ℕ → Option (List ℕ)
if_iri value = if is_iri value then Some value else None

-- 6
abbrev pub from_parts : Context → List ℕ → Option (List ℕ × List ℕ) → Option (List ℕ)
from_parts context value None = None
from_parts context value (Some p) = if is_whole p then Some value else option_or (joined (def_of context p.0) p.1) (if_iri value)

-- 8 and 9: resolved against the base, where there is one, or as it is
abbrev pub from_base : Bool → Option (List ℕ) → List ℕ → List ℕ
from_base true (Some base) value = resolved base value
from_base _ _ value = value

-- 7: vocabulary and value
abbrev pub from_vocab : Context → (relative vocab : Bool) → Option (List ℕ) → List ℕ → List ℕ
from_vocab context relative true (Some vocabulary) value = vocabulary ++ value
from_vocab context relative _ _ value = from_base relative context.own.base value

abbrev pub or_else : {A : Type 0} → Option A → A → A
or_else (Some a) b = a
or_else None b = b

-- 6 to 9
abbrev pub from_form : Context → (relative vocab : Bool) → List ℕ → List ℕ
from_form context relative vocab value = or_else (from_parts context value (parts value)) (from_vocab context relative vocab context.own.vocab value)

-- 4: a term whose mapping is a keyword gives it; 5: with vocab, a term gives its mapping
abbrev pub is_keyword_mapping : Option (List ℕ) → Bool
is_keyword_mapping (Some iri) = is_keyword iri
is_keyword_mapping None = false

abbrev pub from_term : Context → (relative vocab : Bool) → Option Def → List ℕ → Option (List ℕ)
from_term context relative vocab None value = Some (from_form context relative vocab value)
from_term context relative vocab (Some def) value = if vocab || is_keyword_mapping def.mapping then def.mapping else Some (from_form context relative vocab value)

-- 1 and 2: a keyword is itself, and what else has the form of one gives null
unfoldable pub iri_of : Context → List ℕ → (relative vocab : Bool) → Option (List ℕ)
iri_of context value relative vocab =
    if is_keyword value then Some value
    else if is_keyword_form value then None
    else from_term context relative vocab (def_of context value) value
