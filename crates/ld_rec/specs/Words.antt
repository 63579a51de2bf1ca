-- Small words that the algorithms share.
use Rattle.std.specs.Prelude.{ℕ, Bool, ◌||◌, List, [], ◌∷◌, map, Option, Some, None, is_some}
use Rattle.std.specs.List.{list_any, list_all}
use Rattle.std.specs.Char.{to_ascii_lowercase}
use Rattle.std.specs.Map.{keys_of}
use Rattle.std.specs.Str.{bytes_eq}
pub use Rattle.ld_codes.specs.Keywords.{is_keyword}
use Rattle.ld_iri.specs.Words.{is_iri, is_blank}
use Rattle.ld_tree.specs.Names.{Sorted}
use Rattle.ld_tree.specs.declared.tree.Tree.{Tree, out-Tree}
use Rattle.ld_tree.specs.declared.tree.Tree.TheOpen.{Tree-F}
use Rattle.ld_tree.specs.Maps.{find}

abbrev pub is_among : List (List ℕ) → List ℕ → Bool
is_among texts text = list_any (bytes_eq text) texts

-- an IRI or a blank node identifier
abbrev pub is_iri_or_blank : List ℕ → Bool
is_iri_or_blank text = is_iri text || is_blank text

-- language tags are kept in lower case (own: of ASCII letters alone)
abbrev pub lowered : List ℕ → List ℕ
lowered tag = map to_ascii_lowercase tag

abbrev pub text_in : Tree-F Tree → Option (List ℕ)
text_in (Tree-F.Text text) = Some text
text_in _ = None

abbrev pub text_of : Tree → Option (List ℕ)
text_of tree = text_in (out-Tree tree)

-- an array's items, and what is no array as the one item of an array
abbrev pub items_in : Tree → Tree-F Tree → List Tree
items_in tree (Tree-F.List items) = items
items_in tree _ = tree ∷ []

abbrev pub items_of : Tree → List Tree
items_of tree = items_in tree (out-Tree tree)

abbrev pub has : Sorted Tree → List ℕ → Bool
has entries name = is_some (find entries name)

abbrev pub names_are_among : List (List ℕ) → Sorted Tree → Bool
names_are_among names entries = list_all (is_among names) (keys_of entries.0)

-- an entry that is there is looked at as a value of its kind
abbrev pub opened : Option Tree → Option (Tree-F Tree)
opened (Some tree) = Some (out-Tree tree)
opened None = None
