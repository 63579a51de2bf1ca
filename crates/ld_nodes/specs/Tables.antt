-- Tables: keys in their order, each with its number, which tells how many keys were met before it.
use Rattle.std.specs.Prelude.{ℕ, List, [], ◌∷◌, length, unwrap_or}
use Rattle.std.specs.Map.{lookup}
use Rattle.std.specs.BTreeMap.{insert_entry, is_at}
use Rattle.std.specs.declared.cmp.Ordering.{Ordering}

abbrev pub Table : Type 0 → Type 0
Table K = List (K × ℕ)

module _ {K : Type 0} (cmp : K → K → Ordering) where
  -- the key's number: its own where it was met, and else the next
  abbrev pub number_of : Table K → K → ℕ
  number_of table key = unwrap_or (lookup (is_at (cmp key)) table) (length table)

  -- the table with the key in it
  abbrev pub met : Table K → K → Table K
  met table key = insert_entry cmp table key (number_of table key)

  -- with one key after the other in it
  abbrev pub met_each : Table K → List K → Table K
  met_each table [] = table
  met_each table (key ∷ keys) = met_each (met table key) keys
