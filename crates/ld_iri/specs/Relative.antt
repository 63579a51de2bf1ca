-- The relative reference that stands for an IRI under a base. All of this is the project's own rule;
-- RFC 3986 only says what such a reference must mean (section 5.2).
use Rattle.std.specs.Prelude.{ℕ, Bool, ◌&&◌, ◌||◌, if◌then◌else◌, List, [], ◌∷◌, ◌++◌, is_some, codes}
use Rattle.std.specs.Option.{option_eq}
use Rattle.std.specs.List.{join_with_byte}
use Rattle.std.specs.Str.{bytes_eq}
use Rattle.ld_iri.specs.Components.{Components, parts, cut, marked}
use Rattle.ld_iri.specs.Words.{is_keyword_form}
use Rattle.ld_iri.specs.Resolution.{segments, folders, is_empty, resolved}

-- "../" for each folder that is left
abbrev pub steps_up : List (List ℕ) → List ℕ
steps_up [] = []
steps_up (f ∷ fs) = codes "../" ++ steps_up fs

-- the way from a base's folders to a path: the folders that both begin with are left out, then come
-- "../" for each folder of the base that is left, and what is left of the path
abbrev pub way : List (List ℕ) → List (List ℕ) → List ℕ
way [] path = join_with_byte 47 path
way (f ∷ fs) [] = steps_up (f ∷ fs)
way (f ∷ fs) (s ∷ []) = steps_up (f ∷ fs) ++ s
way (f ∷ fs) (s ∷ t ∷ rest) = if bytes_eq f s then way fs (t ∷ rest) else steps_up (f ∷ fs) ++ join_with_byte 47 (s ∷ t ∷ rest)

-- the first segment of a reference ends before its first "/", "?" or "#"
abbrev pub first_segment : List ℕ → List ℕ
first_segment reference = (cut 35 (cut 63 (cut 47 reference).0).0).0

-- a reference with an empty first segment, with a ":" in it (RFC 3986, section 4.2), or of the form of a
-- keyword would be read as something else
abbrev pub needs_dot : List ℕ → Bool
needs_dot reference = is_empty (first_segment reference) || is_some (cut 58 (first_segment reference)).1 || is_keyword_form reference

abbrev pub with_dot : List ℕ → List ℕ
with_dot reference = if needs_dot reference then codes "./" ++ reference else reference

abbrev pub path_reference : Components → Components → List ℕ
path_reference base iri = with_dot (way (folders base.path) (segments iri.path) ++ marked (codes "?") iri.query ++ marked (codes "#") iri.fragment)

abbrev pub has_same_place : Components → Components → Bool
has_same_place base iri = option_eq bytes_eq base.scheme iri.scheme && option_eq bytes_eq base.authority iri.authority

abbrev pub is_fragment_of : Components → Components → Bool
is_fragment_of base iri = bytes_eq base.path iri.path && option_eq bytes_eq base.query iri.query && is_some iri.fragment

-- a reference is used where it leads back to the IRI
abbrev pub if_leads_back : List ℕ → List ℕ → List ℕ → List ℕ
if_leads_back base iri reference = if bytes_eq (resolved base reference) iri then reference else iri

-- the IRI where scheme or authority differ; the fragment alone where all else agrees; else the way
unfoldable pub relative : List ℕ → List ℕ → List ℕ
relative base iri =
    let from = parts base in
    let to = parts iri in
    if has_same_place from to then (if is_fragment_of from to then marked (codes "#") to.fragment else if_leads_back base iri (path_reference from to))
    else iri
