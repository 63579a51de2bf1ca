-- Add Value (JSON-LD 1.1 API, 4.4).
use Rattle.std.specs.Prelude.{ℕ, Bool, true, false, not, if◌then◌else◌, List, [], ◌∷◌, ◌++◌, Option, Some, None}
use Rattle.ld_tree.specs.Maps.{find, put, empty}
use Rattle.ld_tree.specs.Names.{Sorted}
use Rattle.ld_tree.specs.Recursion.{para}
use Rattle.ld_tree.specs.declared.tree.Tree.{Tree}
use Rattle.ld_tree.specs.declared.tree.Tree.TheOpen.{Tree-F}
use Rattle.ld_tree.specs.declared.tree.Tree.TheFolds.{map-Tree}
use Rattle.ld_tree.specs.declared.tree.Tree.TheViews.{roll-Tree}
use Rattle.ld_rec.specs.Words.{items_of}
use Rattle.ld_rec.specs.Kinds.{list_of, map_of, is_map, entries_of}

-- 2: an array is added value by value, and so is an array within it
abbrev pub joined : List (Tree × List Tree) → List Tree
joined [] = []
joined (item ∷ items) = item.1 ++ joined items

abbrev pub tree_in : Tree × List Tree → Tree
tree_in item = item.0

abbrev pub singles_step : Tree-F (Tree × List Tree) → List Tree
singles_step (Tree-F.List items) = joined items
singles_step level = roll-Tree (map-Tree (Tree × List Tree) Tree tree_in level) ∷ []

unfoldable pub singles : Tree → List Tree
singles = para (List Tree) singles_step

abbrev pub all_singles : List Tree → List Tree
all_singles [] = []
all_singles (value ∷ values) = singles value ++ all_singles values

-- 3: a missing entry becomes the value, and what is there an array with the value behind it
abbrev pub appended : Option Tree → Tree → Tree
appended None value = value
appended (Some former) value = list_of (items_of former ++ value ∷ [])

abbrev pub add_single : List ℕ → Tree → Sorted Tree → Sorted Tree
add_single name value entries = put entries name (appended (find entries name) value)

abbrev pub add_singles : List ℕ → List Tree → Sorted Tree → Sorted Tree
add_singles name [] entries = entries
add_singles name (value ∷ values) entries = add_singles name values (add_single name value entries)

-- 1: as array, the entry is made an array first
abbrev pub items_at : Option Tree → List Tree
items_at None = []
items_at (Some value) = items_of value

abbrev pub with_list : Bool → List ℕ → Sorted Tree → Sorted Tree
with_list true name entries = put entries name (list_of (items_at (find entries name)))
with_list false name entries = entries

abbrev pub add_value : List ℕ → (as_list : Bool) → Tree → Sorted Tree → Sorted Tree
add_value name as_list value entries = add_singles name (singles value) (with_list as_list name entries)

-- ---- a map by keys under a name (6.1.2, 12.8.9)

abbrev pub entries_at : Option Tree → Sorted Tree
entries_at None = empty
entries_at (Some tree) = entries_of tree

-- what is there and is no map
abbrev pub holds_other : Option Tree → Bool
holds_other None = false
holds_other (Some tree) = not (is_map tree)

-- the value is added under the key in the map that the name has; what is no map stays beside a new one (own)
abbrev pub add_keyed : List ℕ → (as_list : Bool) → List ℕ → Tree → Sorted Tree → Sorted Tree
add_keyed name as_list key value entries =
    if holds_other (find entries name) then add_value name as_list (map_of (add_value key as_list value empty)) entries
    else put entries name (map_of (add_value key as_list value (entries_at (find entries name))))
