-- What the algorithm of compaction is given beside an element (JSON-LD 1.1 API, 6.1.2).
use Rattle.std.specs.Prelude.{ℕ, List, Option, Some, option_and_then, map}
use Rattle.std.specs.Map.{lookup}
use Rattle.std.specs.BTreeMap.{is_at}
use Rattle.ld_tree.specs.Names.{Sorted, name_cmp}
use Rattle.ld_tree.specs.formers.entries.Entries.{on_value, to_shape}
use Rattle.ld_tree.specs.declared.tree.Tree.{Tree}
use Rattle.ld_rec.specs.declared.def.Def.{Def}
use Rattle.ld_rec.specs.Outcome.{Answer}
use Rattle.ld_rec.specs.Records.{Context, def_of}

-- how an element is taken: as it is; a list or graph object by what it holds; a node by its `@id` alone
pub data Way : Type 0 where
  Whole : Way
  Content : Way
  IdAlone : Way

-- where an element stands: in a context, under an active property where there is one, taken in some way
pub record Place : Type 0 where
  pub context : Context
  pub property : Option (List ℕ)
  pub way : Way

-- what an element comes to, at each place
abbrev pub Becomes : Type 0
Becomes = Place → Answer Tree

-- an item of a value, beside what it comes to
abbrev pub Item : Type 0
Item = Tree × Becomes

-- a value within the element at hand, beside what it comes to, and with its items
abbrev pub Value : Type 0
Value = Tree × (Becomes × List Item)

abbrev pub Entry : Type 0
Entry = List ℕ × Value

abbrev pub tree_of : Value → Tree
tree_of value = value.0

abbrev pub items_in : Value → List Item
items_in value = value.1.1

abbrev pub item_of : Value → Item
item_of value = (value.0, value.1.0)

-- a map's entries, without what they come to
abbrev pub trees_of : Sorted Value → Sorted Tree
trees_of entries = (map (on_value tree_of) entries.0, to_shape tree_of entries.0 entries.1)

-- what stands under the name among a map's entries
abbrev pub value_at : List ℕ → List Entry → Option Value
value_at name entries = lookup (is_at (name_cmp name)) entries

-- the algorithm again, for an item under a property of the result, and for a value as it is
abbrev pub compact_item : Way → Item → Context → List ℕ → Answer Tree
compact_item way item context property = item.1 (record { context = context; property = Some property; way = way })

abbrev pub compact_whole : Value → Context → Option (List ℕ) → Answer Tree
compact_whole value context property = value.1.0 (record { context = context; property = property; way = Whole })

-- the active property's definition
abbrev pub def_at : Context → Option (List ℕ) → Option Def
def_at context property = option_and_then (def_of context) property
