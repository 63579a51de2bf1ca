-- What the parts of a string need of the places before and after them.
use Rattle.std.specs.Prelude.{◌≡◌, ℕ, ◌+◌, ◌≤◌, Bool, false, List, ◌∷◌, ◌++◌, true, Some, None}
use Rattle.ld_tree_read.specs.declared.cursor.Cursor.{Cursor}
use Rattle.ld_tree_read.specs.declared.refusal.ReadRefusal.{ReadRefusal}
use Rattle.ld_tree_read.specs.Cursor.{left, Leads, Stops}
use Rattle.ld_tree_read.specs.Refusals.{tail_of}
use Rattle.std.specs.List.{AllByRecursion}
use Rattle.std.specs.Str.{IsUtf8}
use Rattle.ld_tree.specs.Reading.{hex, is_unescaped}
use Rattle.ld_tree_read.specs.Grammar.{IsRest}
use Rattle.ld_tree_read.specs.State.{Inside, string, inside, is_plain, tail, is_next}

abbrev pub LeadsIn : Cursor → Inside → Cursor → Inside → Type 0
LeadsIn c i d j = (is_name : Bool) → Leads c (string is_name i) d (string is_name j)

abbrev pub StopsIn : Cursor → Inside → ReadRefusal → Type 0
StopsIn c i e = (is_name : Bool) → Stops c (string is_name i) e

-- one byte has been passed, and P holds of it
pub record Follows (c d : Cursor) (P : ℕ → Type 0) : Type 0 where
  pub byte : ℕ
  pub is : left c ≡ byte ∷ left d
  pub at : d.at ≡ c.at + 1
  pub holds : P byte

-- the bytes begin with a hexadecimal digit that stands for v, from low to high; and with none that does
abbrev pub IsHex : List ℕ → ℕ → ℕ → ℕ → Type 0
IsHex bytes v low high = (b : ℕ) × (r : List ℕ) × (bytes ≡ b ∷ r) × (hex b ≡ Some v) × (low ≤ v) × (v ≤ high)

abbrev pub NoHex : List ℕ → ℕ → ℕ → Type 0
NoHex bytes low high = (b : ℕ) (r : List ℕ) → bytes ≡ b ∷ r → (v : ℕ) → hex b ≡ Some v → low ≤ v → v ≤ high → ⊥

-- no byte that passes the test is next
abbrev pub NoByte : List ℕ → (ℕ → Bool) → Type 0
NoByte bytes test = (b : ℕ) (r : List ℕ) → bytes ≡ b ∷ r → test b ≡ false

-- here nothing but a hexadecimal digit from low to high leads on
pub record TakesHex (i : Inside) (low high : ℕ) : Type 0 where
  pub inner : is_plain i ≡ false
  pub between : (n : Bool) → tail_of (string n i) ≡ None
  pub only : (b : ℕ) → ((v : ℕ) → hex b ≡ Some v → low ≤ v → v ≤ high → ⊥) → inside i b ≡ None

-- the rest of a character: a byte from low to high, and then more bytes
abbrev pub IsTail : ℕ → ℕ → ℕ → List ℕ → List ℕ → Type 0
IsTail low high more bytes rest = (b : ℕ) × (c : List ℕ) × (bytes ≡ b ∷ c) × (is_next (tail low high 0) b ≡ true) × IsRest more c rest

-- some bytes that are UTF-8 have been passed, and each of them stands for itself
pub record PassesChar (bytes rest : List ℕ) : Type 0 where
  pub passed : List ℕ
  pub is : bytes ≡ passed ++ rest
  pub utf8 : IsUtf8 passed
  pub each : AllByRecursion (λ b. is_unescaped b ≡ true) passed
