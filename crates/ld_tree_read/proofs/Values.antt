-- Where a value is due.
use Rattle.std.proofs.Common.{◌≡◌, ◌∙◌, refl, sym, ap, ℕ, ◌+◌, ◌<◌, Bool, true, false, ◌||◌, true≢false, nat_eq, List, ◌∷◌, Some, None, arith}
use Rattle.ld_tree_read.specs.declared.cursor.Cursor.{Cursor}
use Rattle.ld_tree_read.specs.State.{Level}
use Rattle.ld_tree_read.specs.declared.refusal.ReadRefusal.{ReadRefusal}
use Rattle.ld_tree_read.specs.Cursor.{left, ahead}
use Rattle.ld_tree.specs.Numbers.{is_digit}
use Rattle.ld_tree.specs.Numbers.{number_at, unsigned_at}
use Rattle.ld_tree_read.specs.Refusals.{refusal, number_refusal}
use Rattle.ld_tree_read.specs.State.{value, minus, step}
use Rattle.ld_tree_read.specs.Steps.{BeginsNumber, fault_at}
use Rattle.ld_tree_read.proofs.Follows.{goes, same_step, no_value, not_opening, refused}
use Rattle.ld_tree_read.proofs.Tokens.{not_byte, digit_bounds, still}
use Rattle.ld_tree_read.proofs.Scaled.{passed, same_nat}

pub number_minus : (bs r : List ℕ) → bs ≡ 45 ∷ r → number_at bs ≡ unsigned_at true r
unfolding number_at
number_minus bs r e = ap number_at e

pub number_plain : (bs : List ℕ) → BeginsNumber bs → ((r : List ℕ) → bs ≡ 45 ∷ r → ⊥) → number_at bs ≡ unsigned_at false bs
unfolding number_at
number_plain bs (b, r, e, d) other = ap number_at e ∙ passed (nat_eq b 45) (unsigned_at true r) (unsigned_at false (b ∷ r)) (not_byte b 45 (λ is. other r (e ∙ ap (λ b. b ∷ r) is))) ∙ ap (unsigned_at false) (sym e)

pub value_minus : (fs : List Level) → step fs value 45 ≡ Some (fs, minus)
unfolding step
value_minus fs = refl

pub value_digit : (fs : List Level) (b : ℕ) → is_digit b ≡ true → step fs value b ≡ step fs minus b
unfolding step
value_digit fs b d =
    let w = digit_bounds b d in
    rw (not_byte b 32 (λ e. omega (arith, e, w.0)), not_byte b 9 (λ e. omega (arith, e, w.0)), not_byte b 10 (λ e. omega (arith, e, w.0)), not_byte b 13 (λ e. omega (arith, e, w.0)), not_byte b 34 (λ e. omega (arith, e, w.0)), not_byte b 91 (λ e. omega (arith, e, w.1)), not_byte b 123 (λ e. omega (arith, e, w.1)), not_byte b 110 (λ e. omega (arith, e, w.1)), not_byte b 116 (λ e. omega (arith, e, w.1)), not_byte b 102 (λ e. omega (arith, e, w.1)), not_byte b 45 (λ e. omega (arith, e, w.0))) refl

-- a number's first byte
pub number_low : (b : ℕ) → is_digit b || nat_eq b 45 ≡ true → b < 58
number_low b h = go (is_digit b) refl h
  where
    go : (x : Bool) → is_digit b ≡ x → x || nat_eq b 45 ≡ true → b < 58
    go true e h = (digit_bounds b e).1
    go false e h = let is = same_nat b 45 h in omega (arith, is)

pub no_bracket : (b : ℕ) → is_digit b || nat_eq b 45 ≡ true → nat_eq b 91 || nat_eq b 123 ≡ false
no_bracket b h = let low = number_low b h in rw (not_byte b 91 (λ e. omega (arith, e, low)), not_byte b 123 (λ e. omega (arith, e, low))) refl

module _ (c d : Cursor) (fs : List Level) (none : fault_at c ≡ None) where
  -- behind a minus
  pub on_minus : left c ≡ 45 ∷ left d → d.at ≡ c.at + 1 → ahead c fs value ≡ ahead d fs minus
  on_minus e at =
      ap (refusal c.at fs value) e
      ∙ goes c.at fs value 45 (left d) (not_opening c.at fs value 45 (left d) refl refl ∙ ap (λ bs. number_refusal c.at (number_at bs)) (sym e) ∙ none) (value_minus fs)
      ∙ ap (λ n. refusal n fs minus (left d)) (sym at)

  -- without one
  pub on_digit : BeginsNumber (left c) → ((r : List ℕ) → left c ≡ 45 ∷ r → ⊥) → left d ≡ left c → d.at ≡ c.at → ahead c fs value ≡ ahead d fs minus
  on_digit (b, r, e, begins) other same at =
      ap (refusal c.at fs value) e
      ∙ same_step c.at fs value minus b r (not_opening c.at fs value b r refl (no_bracket b begins) ∙ ap (λ bs. number_refusal c.at (number_at bs)) (sym e) ∙ none)
      (no_value c.at fs minus b r refl) (value_digit fs b (either (is_digit b) (nat_eq b 45) begins (not_byte b 45 (λ is. other r (e ∙ ap (λ b. b ∷ r) is))))) refl
      ∙ ap (refusal c.at fs minus) (sym e) ∙ still c d fs minus same at
    where
      either : (x y : Bool) → x || y ≡ true → y ≡ false → x ≡ true
      either true y h n = refl
      either false y h n = absurd (true≢false (sym h ∙ n))

-- a number that isn't read
pub bad_number : (c : Cursor) (fs : List Level) (e : ReadRefusal) → BeginsNumber (left c) → fault_at c ≡ Some e → ahead c fs value ≡ Some e
bad_number c fs e (b, r, is, begins) fault =
    ap (refusal c.at fs value) is
    ∙ refused c.at fs value b r (not_opening c.at fs value b r refl (no_bracket b begins) ∙ ap (λ bs. number_refusal c.at (number_at bs)) (sym is) ∙ fault)
