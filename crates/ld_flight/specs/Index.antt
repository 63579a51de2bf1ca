-- The index of a folder of contexts (own): a line is an IRI, one space, and the name of a file in the folder.
use Rattle.std.specs.Prelude.{◌≡◌, ℕ, nat_lt, ◌==◌, Bool, not, ◌&&◌, IsTrue, List, [], ◌∷◌, ◌++◌, length, All, Contains, Option, codes}
use Rattle.std.specs.List.{slice_split, list_all}
use Rattle.std.specs.Str.{bytes_eq}

-- a line feed ends a line; behind the last one stands a line too, which may be empty
abbrev pub lines_of : List ℕ → List (List ℕ)
lines_of index = slice_split (λ byte. byte == 10) index

-- visible ASCII, but for the slash
abbrev pub is_file_byte : ℕ → Bool
is_file_byte byte = nat_lt 32 byte && nat_lt byte 127 && not (byte == 47)

-- the name of a file that lies in the folder itself
abbrev pub is_file_name : List ℕ → Bool
is_file_name name = not (bytes_eq name []) && not (bytes_eq name (codes ".")) && not (bytes_eq name (codes "..")) && list_all is_file_byte name

-- the line gives this file to the IRI
pub record IsLineOf (iri name line : List ℕ) : Type 0 where
  pub line_is : line ≡ iri ++ 32 ∷ name
  pub in_folder : IsTrue (is_file_name name)

abbrev pub NamesNone : (iri : List ℕ) → (line : List ℕ) → Type 0
NamesNone iri line = (name : List ℕ) → IsLineOf iri name line → ⊥

-- the first line that gives the IRI a file gives it this one
pub record IsNamed (index iri name : List ℕ) : Type 0 where
  pub before : List (List ℕ)
  pub line : List ℕ
  pub after : List (List ℕ)
  pub lines_are : lines_of index ≡ before ++ line ∷ after
  pub none_before : All (NamesNone iri) before
  pub names : IsLineOf iri name line

-- no line gives the IRI a file
abbrev pub IsUnnamed : (index iri : List ℕ) → Type 0
IsUnnamed index iri = All (NamesNone iri) (lines_of index)
