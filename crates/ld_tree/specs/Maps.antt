-- Maps as values: what stands under a name, and the map with another entry or with one fewer.
use Rattle.std.specs.Prelude.{ℕ, List, [], Option}
use Rattle.std.specs.Map.{lookup, remove_entry}
use Rattle.std.specs.BTreeMap.{insert_entry, is_at}
use Rattle.ld_tree.specs.Names.{name_cmp, Sorted}
use Rattle.ld_tree.specs.InOrder.{in_order_none, in_order_insert, in_order_remove}

-- the map with no entry
abbrev pub empty : {T : Type 0} → Sorted T
empty = ([], in_order_none)

-- what stands under the name
abbrev pub find : {T : Type 0} → Sorted T → List ℕ → Option T
find m name = lookup (is_at (name_cmp name)) m.0

-- the map with the value under the name, whatever stood there
abbrev pub put : {T : Type 0} → Sorted T → List ℕ → T → Sorted T
put m name value = (insert_entry name_cmp m.0 name value, in_order_insert name value m.0 m.1)

-- the map without the name
abbrev pub take_out : {T : Type 0} → Sorted T → List ℕ → Sorted T
take_out m name = (remove_entry (is_at (name_cmp name)) m.0, in_order_remove (is_at (name_cmp name)) m.0 m.1)
