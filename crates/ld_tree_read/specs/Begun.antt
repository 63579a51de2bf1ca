-- The beginnings of JSON texts (RFC 8259), whatever their numbers stand for and however deep they are.
use Rattle.std.specs.Prelude.{◌≡◌, ℕ, suc, ◌+◌, ◌<◌, ◌≤◌, length, take, Bool, true, false, List, [], ◌∷◌, Option, Some, None}
use Rattle.std.specs.Option.{is_some}
use Rattle.ld_tree_read.specs.Refusals.{value_refusal, end_refusal, byte_refusal}
use Rattle.ld_tree_read.specs.State.{Here, start, Place, step, is_end}
use Rattle.ld_tree_read.specs.State.{Level}
use Rattle.ld_tree_read.specs.declared.refusal.ReadRefusal.{ReadRefusal}
use Rattle.ld_tree_read.specs.declared.refusal.ReadRefusal.TheVariants as r

abbrev pub lead_on : Option Place → (Place → Option Place) → Option Place
lead_on None next = None
lead_on (Some p) next = next p

-- where bytes lead from a place; nowhere, where no text goes on with them
unfoldable pub after : List Level → Here → List ℕ → Option Place
after fs here [] = Some (fs, here)
after fs here (b ∷ bs) = lead_on (step fs here b) (λ p. after p.0 p.1 bs)

-- the beginning of a text
abbrev pub begun : List ℕ → Bool
begun bytes = is_some (after [] start bytes)

abbrev pub ends : Option Place → Bool
ends None = false
ends (Some p) = is_end p.0 p.1

-- a whole text
abbrev pub is_text : List ℕ → Bool
is_text bytes = ends (after [] start bytes)

-- a refusal that stands somewhere in the bytes: at their end, at a byte with which no text goes on, or at a value's first byte
pub data Refuses : ℕ → List Level → Here → List ℕ → ReadRefusal → Type 0 where
  ended : {at : ℕ} {fs : List Level} {here : Here} → is_end fs here ≡ false → Refuses at fs here [] (end_refusal at here)
  stuck : {at : ℕ} {fs : List Level} {here : Here} {b : ℕ} {bs : List ℕ} → step fs here b ≡ None → Refuses at fs here (b ∷ bs) (byte_refusal at here b)
  unread : {at : ℕ} {fs : List Level} {here : Here} {b : ℕ} {bs : List ℕ} {e : ReadRefusal} → value_refusal at fs here b bs ≡ Some e → Refuses at fs here (b ∷ bs) e
  later : {at : ℕ} {fs : List Level} {here : Here} {b : ℕ} {bs : List ℕ} {e : ReadRefusal} (gs : List Level) (there : Here) → step fs here b ≡ Some (gs, there) → Refuses (at + 1) gs there bs e → Refuses at fs here (b ∷ bs) e

-- where a refusal stands
abbrev pub place : ReadRefusal → ℕ
place (r.Syntax at) = at
place (r.NotUtf8 at) = at
place (r.Fraction at) = at
place (r.TooLarge at) = at
place (r.TooDeep at) = at
place r.NoMemory = 0

-- the bytes end no text, or UTF-8
abbrev pub is_stop : ReadRefusal → Bool
is_stop (r.Syntax at) = true
is_stop (r.NotUtf8 at) = true
is_stop _ = false

-- k is how many bytes at most begin a text from this place on, and all of them are none
pub record IsLongest (fs : List Level) (here : Here) (bytes : List ℕ) (k : ℕ) : Type 0 where
  pub begins : is_some (after fs here (take k bytes)) ≡ true
  pub within : k ≤ length bytes
  pub next : k < length bytes → is_some (after fs here (take (suc k) bytes)) ≡ false
  pub none : ends (after fs here bytes) ≡ false
