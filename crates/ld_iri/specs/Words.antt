-- The kinds of words of JSON-LD 1.1: IRIs, blank node identifiers, and what has the form of a keyword.
use Rattle.std.specs.Prelude.{ℕ, ◌==◌, Bool, false, ◌&&◌, ◌||◌, not, List, [], ◌∷◌, is_some, codes, nat_eq}
use Rattle.std.specs.List.{starts_with, list_all}
use Rattle.std.specs.Char.{is_ascii_alphabetic, is_control}
use Rattle.std.specs.Str.{chars}
use Rattle.ld_iri.specs.Components.{parts}

-- own rule: the characters that an IRI hasn't are the space, the controls of Unicode (class Cc), and
-- < > " { } | \ ^ and the backquote
abbrev pub is_forbidden : ℕ → Bool
is_forbidden c = is_control c || c == 32 || c == 60 || c == 62 || c == 34 || c == 123 || c == 125 || c == 124 || c == 92 || c == 94 || c == 96

abbrev pub is_allowed : ℕ → Bool
is_allowed c = not (is_forbidden c)

-- each character of the text is one that an IRI may have
abbrev pub allows : List ℕ → Bool
allows text = list_all is_allowed (chars text)

-- IRI form (own rule): a scheme (RFC 3986, section 3.1), ":" and any rest, the empty one too, of allowed characters
abbrev pub is_iri : List ℕ → Bool
is_iri text = is_some (parts text).scheme && allows text

-- JSON-LD 1.1, "Identifying Blank Nodes"
abbrev pub is_blank : List ℕ → Bool
is_blank text = starts_with nat_eq text (codes "_:")

abbrev pub is_name : List ℕ → Bool
is_name [] = false
is_name (b ∷ bs) = is_ascii_alphabetic b && list_all is_ascii_alphabetic bs

-- JSON-LD 1.1, "Syntax Tokens and Keywords": what has the form of a keyword is "@" and one or more ASCII letters
abbrev pub is_keyword_form : List ℕ → Bool
is_keyword_form [] = false
is_keyword_form (b ∷ bs) = b == 64 && is_name bs
