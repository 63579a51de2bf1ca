-- The entries that a result at work stands for, and what stands under a name after values were added.
use Rattle.std.specs.Prelude.{Bool, true, false, not, ◌&&◌, List, [], ◌∷◌, map, Option, Some, None}
use Rattle.ld_tree.specs.Names.{Sorted}
use Rattle.ld_tree.specs.formers.entries.Entries.{on_value, to_shape}
use Rattle.ld_tree.specs.declared.tree.Tree.{Tree}
use Rattle.ld_rec.specs.Kinds.{null, list_of, map_of}
use Rattle.ld_compact.specs.Adding.{items_at, appended, holds_other}
use Rattle.ld_compact.specs.declared.making.Slot.{Slot}
use Rattle.ld_compact.specs.declared.making.Slot.TheVariants.{Settled, Open}

abbrev pub tree_in : Slot → Tree
tree_in (Settled tree) = tree
tree_in (Open entries) = map_of entries

abbrev pub result_of : Sorted Slot → Sorted Tree
result_of slots = (map (on_value tree_in) slots.0, to_shape tree_in slots.0 slots.1)

-- what is no map
abbrev pub is_other_slot : Slot → Bool
is_other_slot (Settled tree) = holds_other (Some tree)
is_other_slot (Open entries) = false

-- ---- one name

-- no value is added, and no list made
abbrev pub are_none : List Tree → Bool
are_none [] = true
are_none (value ∷ values) = false

abbrev pub adds_nothing : (as_list : Bool) → List Tree → Bool
adds_nothing as_list values = not as_list && are_none values

abbrev pub begun : Option Tree → (as_list : Bool) → Option Tree
begun former true = Some (list_of (items_at former))
begun former false = former

abbrev pub all_appended : Option Tree → List Tree → Option Tree
all_appended former [] = former
all_appended former (value ∷ values) = all_appended (Some (appended former value)) values

abbrev pub or_null : Option Tree → Tree
or_null (Some tree) = tree
or_null None = null

abbrev pub grown : Option Tree → (as_list : Bool) → List Tree → Tree
grown former as_list values = or_null (all_appended (begun former as_list) values)
