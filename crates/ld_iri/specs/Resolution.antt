-- What a reference means under a base: RFC 3986, section 5.2, in its strict form and with no further
-- normalisation. Paths are lists of segments, which stand between slashes (section 3.3).
use Rattle.std.specs.Prelude.{ℕ, ◌==◌, Bool, true, false, ◌&&◌, ◌||◌, if◌then◌else◌, List, [], ◌∷◌, ◌++◌, Option, Some, None, is_some, codes, fold}
use Rattle.std.specs.Option.{option_or}
use Rattle.std.specs.List.{slice_split, before_last}
use Rattle.std.specs.Str.{bytes_eq}
use Rattle.ld_iri.specs.Components.{Components, parts, recomposed}

abbrev pub is_slash : ℕ → Bool
is_slash b = b == 47

abbrev pub segments : List ℕ → List (List ℕ)
segments path = slice_split is_slash path

-- the segments but the last: the folders of a path
abbrev pub all_but_last : List (List ℕ) → List (List ℕ)
all_but_last [] = []
all_but_last (s ∷ []) = []
all_but_last (s ∷ t ∷ rest) = s ∷ all_but_last (t ∷ rest)

abbrev pub folders : List ℕ → List (List ℕ)
folders path = all_but_last (segments path)

abbrev pub is_empty : List ℕ → Bool
is_empty [] = true
is_empty (b ∷ bs) = false

-- section 5.2.3: behind an authority with an empty path a slash comes first, else the base's folders
abbrev pub merged : Components → List (List ℕ) → List (List ℕ)
merged base path = if is_some base.authority && is_empty base.path then [] ∷ path else folders base.path ++ path

abbrev pub is_dot : List ℕ → Bool
is_dot s = bytes_eq s (codes ".")

abbrev pub is_two_dots : List ℕ → Bool
is_two_dots s = bytes_eq s (codes "..")

abbrev pub is_dots : List ℕ → Bool
is_dots s = is_dot s || is_two_dots s

-- section 5.2.4, step 2C: the output without its last segment and the slash before that, if any
abbrev pub without_last : List ℕ → List ℕ
without_last output = before_last is_slash output

-- section 5.2.4, steps 2B, 2C and 2E: the output after one more segment with a slash before it
abbrev pub next_output : List ℕ → List ℕ → List ℕ
next_output output s = if is_dot s then output else if is_two_dots s then without_last output else output ++ 47 ∷ s

-- the same steps: a dot segment at the end leaves its slash
abbrev pub last_slash : List (List ℕ) → List ℕ
last_slash [] = []
last_slash (s ∷ []) = if is_dots s then codes "/" else []
last_slash (s ∷ t ∷ rest) = last_slash (t ∷ rest)

abbrev pub moved : List ℕ → List (List ℕ) → List ℕ
moved output rest = fold next_output output rest ++ last_slash rest

-- section 5.2.4, steps 2A and 2D: dot segments at the start, with no slash before them, are left out; the
-- first other segment begins the output
abbrev pub without_dots : List (List ℕ) → List ℕ
without_dots [] = []
without_dots (s ∷ rest) = if is_dots s then without_dots rest else moved s rest

abbrev pub remove_dot_segments : List ℕ → List ℕ
remove_dot_segments path = without_dots (segments path)

abbrev pub begins_with_slash : List ℕ → Bool
begins_with_slash [] = false
begins_with_slash (b ∷ bs) = is_slash b

-- the segments of a folder, where there is one
abbrev pub folder_segments : Option (List ℕ) → List (List ℕ)
folder_segments None = []
folder_segments (Some folder) = segments folder

-- section 5.2.2, transform references
unfoldable pub target : Components → Components → Components
target base r =
    if is_some r.scheme then record r { path = remove_dot_segments r.path }
    else if is_some r.authority then record r { scheme = base.scheme; path = remove_dot_segments r.path }
    else if is_empty r.path then record base { query = option_or r.query base.query; fragment = r.fragment }
    else record base {
      path = if begins_with_slash r.path then remove_dot_segments r.path else without_dots (merged base (segments r.path));
      query = r.query;
      fragment = r.fragment;
    }

unfoldable pub resolved : List ℕ → List ℕ → List ℕ
resolved base reference = recomposed (target (parts base) (parts reference))
