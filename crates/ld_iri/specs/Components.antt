-- The components of a reference: RFC 3986, section 3.
use Rattle.std.specs.Prelude.{ℕ, ◌==◌, Bool, false, ◌&&◌, ◌||◌, if◌then◌else◌, List, [], ◌∷◌, ◌++◌, drop, Option, Some, None, codes, nat_eq}
use Rattle.std.specs.List.{starts_with, list_all}
use Rattle.std.specs.Char.{is_ascii_alphabetic, is_ascii_digit}

-- section 3: scheme ":" "//" authority path "?" query "#" fragment; all but the path may be absent
pub record Components : Type 0 where
  pub scheme : Option (List ℕ)
  pub authority : Option (List ℕ)
  pub path : List ℕ
  pub query : Option (List ℕ)
  pub fragment : Option (List ℕ)

-- a byte before a text that was cut
abbrev pub onto : ℕ → List ℕ × Option (List ℕ) → List ℕ × Option (List ℕ)
onto b parts = (b ∷ parts.0, parts.1)

-- the text before the first mark, and what stands behind that mark, where there is one
abbrev pub cut : ℕ → List ℕ → List ℕ × Option (List ℕ)
cut mark [] = ([], None)
cut mark (b ∷ bs) = if b == mark then ([], Some bs) else onto b (cut mark bs)

-- section 3.1: letters, digits, "+", "-" and "."
abbrev pub is_scheme_byte : ℕ → Bool
is_scheme_byte b = is_ascii_alphabetic b || is_ascii_digit b || b == 43 || b == 45 || b == 46

-- section 3.1: a scheme begins with a letter
abbrev pub is_scheme : List ℕ → Bool
is_scheme [] = false
is_scheme (b ∷ bs) = is_ascii_alphabetic b && list_all is_scheme_byte bs

-- section 3.1: a scheme ends at the first ":". Own rule: what stands before that ":" and isn't of the
-- form of a scheme is no scheme, and stays with what follows
abbrev pub scheme_from : List ℕ → List ℕ → Option (List ℕ) → Option (List ℕ) × List ℕ
scheme_from text name None = (None, text)
scheme_from text name (Some rest) = if is_scheme name then (Some name, rest) else (None, text)

abbrev pub scheme_and_rest : List ℕ → Option (List ℕ) × List ℕ
scheme_and_rest text = scheme_from text (cut 58 text).0 (cut 58 text).1

-- a component with its mark before or behind it, where there is one
abbrev pub marked : List ℕ → Option (List ℕ) → List ℕ
marked mark None = []
marked mark (Some text) = mark ++ text

abbrev pub ended : Option (List ℕ) → List ℕ → List ℕ
ended None mark = []
ended (Some text) mark = text ++ mark

-- section 3.2: an authority stands behind "//" and ends before the next slash, which begins the path
abbrev pub authority_and_path : List ℕ → Option (List ℕ) × List ℕ
authority_and_path text =
    if starts_with nat_eq text (codes "//") then (Some (cut 47 (drop 2 text)).0, marked (codes "/") (cut 47 (drop 2 text)).1)
    else (None, text)

-- sections 3.4 and 3.5: the fragment stands behind the first "#", and the query behind the first "?" before it
unfoldable pub parts : List ℕ → Components
parts text =
    let whole = cut 35 text in
    let front = cut 63 whole.0 in
    let scheme = scheme_and_rest front.0 in
    let authority = authority_and_path scheme.1 in
    record { scheme = scheme.0; authority = authority.0; path = authority.1; query = front.1; fragment = whole.1 }

-- section 5.3: the components joined again
abbrev pub recomposed : Components → List ℕ
recomposed c = ended c.scheme (codes ":") ++ marked (codes "//") c.authority ++ c.path ++ marked (codes "?") c.query ++ marked (codes "#") c.fragment
