-- What scanners need of the places before and after what they go over.
use Rattle.std.specs.Prelude.{◌≡◌, ℕ, true, false, List, [], ◌∷◌, Option, Some, None, ◌||◌, ◌==◌}
use Rattle.ld_tree_read.specs.State.{Level}
use Rattle.ld_tree.specs.Numbers.{is_digit}
use Rattle.ld_tree.specs.Numbers.{number_at}
use Rattle.ld_tree_read.specs.Refusals.{takes_value, tail_of, number_refusal}
use Rattle.ld_tree_read.specs.Cursor.{left}
use Rattle.ld_tree_read.specs.declared.cursor.Cursor.{Cursor}
use Rattle.ld_tree_read.specs.declared.refusal.ReadRefusal.{ReadRefusal}
use Rattle.ld_tree_read.specs.declared.refusal.ReadRefusal.TheVariants as r
use Rattle.ld_tree.specs.Reading.{is_white}
use Rattle.ld_tree_read.specs.State.{Here, word, done, step, is_end}

-- the bytes begin with no digit
abbrev pub NoDigit : List ℕ → Type 0
NoDigit bytes = (b : ℕ) (r : List ℕ) → bytes ≡ b ∷ r → is_digit b ≡ false

-- at these bytes a digit leads here to there, and nothing else leads on; there any digit stays
pub record Digits (bytes : List ℕ) (here there : Here) : Type 0 where
  pub from : takes_value here ≡ false
  pub to : takes_value there ≡ false
  pub between : tail_of here ≡ None
  pub going : (fs : List Level) → is_end fs here ≡ false
  pub first : (fs : List Level) (b : ℕ) (r : List ℕ) → bytes ≡ b ∷ r → is_digit b ≡ true → step fs here b ≡ Some (fs, there)
  pub other : (fs : List Level) (b : ℕ) (r : List ℕ) → bytes ≡ b ∷ r → is_digit b ≡ false → step fs here b ≡ None
  pub more : (fs : List Level) (b : ℕ) → is_digit b ≡ true → step fs there b ≡ Some (fs, there)

-- a number may begin here: with its minus or a digit
abbrev pub BeginsNumber : List ℕ → Type 0
BeginsNumber bytes = (b : ℕ) × (r : List ℕ) × (bytes ≡ b ∷ r) × (is_digit b || b == 45 ≡ true)

abbrev pub NoNumber : List ℕ → Type 0
NoNumber bytes = (b : ℕ) (r : List ℕ) → bytes ≡ b ∷ r → is_digit b || b == 45 ≡ false

-- why the number that is next isn't read
abbrev pub fault_at : Cursor → Option ReadRefusal
fault_at c = number_refusal c.at (number_at (left c))

-- white space changes nothing here
abbrev pub Spaced : Here → Type 0
Spaced here = (fs : List Level) (b : ℕ) → is_white b ≡ true → step fs here b ≡ Some (fs, here)

-- the bytes begin with no white space
abbrev pub NoWhite : List ℕ → Type 0
NoWhite bytes = (b : ℕ) (r : List ℕ) → bytes ≡ b ∷ r → is_white b ≡ false

-- where the rest of a literal is due
abbrev pub word_here : List ℕ → Here
word_here [] = done
word_here (c ∷ cs) = word (c ∷ cs)

-- want of memory tells nothing
abbrev pub Known : ReadRefusal → Type 0 → Type 0
Known r.NoMemory P = Unit {0}
Known _ P = P
