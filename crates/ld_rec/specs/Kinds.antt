-- The kinds of value that JSON-LD tells apart, and values made from parts.
use Rattle.std.specs.Prelude.{ℕ, Bool, true, false, not, ◌&&◌, ◌||◌, List, [], ◌∷◌, is_some, codes}
use Rattle.ld_tree.specs.Maps.{put, empty}
use Rattle.ld_tree.specs.Names.{Sorted}
use Rattle.ld_tree.specs.Trees.{member}
use Rattle.ld_tree.specs.declared.tree.Tree.{Tree, out-Tree}
use Rattle.ld_tree.specs.declared.tree.Tree.TheOpen.{Tree-F}
use Rattle.ld_tree.specs.declared.tree.Tree.TheViews.{roll-Tree}
use Rattle.ld_rec.specs.Words.{text_of, names_are_among}

-- ---- values made from parts

abbrev pub null : Tree
null = roll-Tree Tree-F.Null

abbrev pub text_tree : List ℕ → Tree
text_tree text = roll-Tree (Tree-F.Text text)

abbrev pub list_of : List Tree → Tree
list_of items = roll-Tree (Tree-F.List items)

abbrev pub map_of : Sorted Tree → Tree
map_of entries = roll-Tree (Tree-F.Map entries)

-- the map of one entry
abbrev pub one_entry : List ℕ → Tree → Tree
one_entry name value = map_of (put empty name value)

-- and of two
abbrev pub two_entries : List ℕ → Tree → List ℕ → Tree → Tree
two_entries name value other_name other = map_of (put (put empty name value) other_name other)

-- ---- JSON's kinds

abbrev pub is_null_in : Tree-F Tree → Bool
is_null_in Tree-F.Null = true
is_null_in _ = false

abbrev pub is_null : Tree → Bool
is_null tree = is_null_in (out-Tree tree)

-- a text, a number or a truth value (JSON-LD 1.1, "Terminology")
abbrev pub is_scalar_in : Tree-F Tree → Bool
is_scalar_in (Tree-F.Text text) = true
is_scalar_in (Tree-F.Num n) = true
is_scalar_in (Tree-F.Bool b) = true
is_scalar_in _ = false

abbrev pub is_scalar : Tree → Bool
is_scalar tree = is_scalar_in (out-Tree tree)

abbrev pub is_list_in : Tree-F Tree → Bool
is_list_in (Tree-F.List items) = true
is_list_in _ = false

abbrev pub is_list : Tree → Bool
is_list tree = is_list_in (out-Tree tree)

abbrev pub is_map_in : Tree-F Tree → Bool
is_map_in (Tree-F.Map entries) = true
is_map_in _ = false

abbrev pub is_map : Tree → Bool
is_map tree = is_map_in (out-Tree tree)

abbrev pub is_text : Tree → Bool
is_text tree = is_some (text_of tree)

-- a map's entries, and none of what is no map
abbrev pub entries_in : Tree-F Tree → Sorted Tree
entries_in (Tree-F.Map entries) = entries
entries_in _ = empty

abbrev pub entries_of : Tree → Sorted Tree
entries_of tree = entries_in (out-Tree tree)

-- ---- JSON-LD's kinds of map (JSON-LD 1.1, "Terminology")

abbrev pub has_entry : List ℕ → Tree → Bool
has_entry name tree = is_some (member name tree)

abbrev pub is_value_object : Tree → Bool
is_value_object tree = has_entry (codes "@value") tree

abbrev pub is_list_object : Tree → Bool
is_list_object tree = has_entry (codes "@list") tree

abbrev pub is_graph_object : Tree → Bool
is_graph_object tree = has_entry (codes "@graph") tree && names_are_among (codes "@graph" ∷ codes "@id" ∷ codes "@index" ∷ []) (entries_of tree)

abbrev pub is_node_object : Tree → Bool
is_node_object tree = is_map tree && not (has_entry (codes "@value") tree || has_entry (codes "@list") tree || has_entry (codes "@set") tree)
