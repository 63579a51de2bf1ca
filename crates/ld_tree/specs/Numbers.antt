-- Numbers (RFC 8259, section 6): the one at the front of some bytes, its exact decimal value, and what is read of it.
use Rattle.std.specs.Prelude.{ℕ, ◌+◌, ◌-◌, ◌*◌, ◌/◌, ◌%◌, ◌^◌, ◌==◌, nat_lt, nat_le, ℤ, pos, neg_ℤ, Bool, true, false, not, ◌&&◌, ◌||◌, cond, if◌then◌else◌, List, [], ◌∷◌, ◌++◌, length, take, drop, Option, Some, None, Result, Ok, Err}
use Rattle.std.specs.List.{prefix_len}
use Rattle.ld_tree.specs.declared.tree.Num.{Num}
use Rattle.ld_tree.specs.declared.tree.Num.TheVariants.{Whole, OneOne}
use Rattle.ld_tree.specs.declared.number.NumFault.{NumFault}
use Rattle.ld_tree.specs.declared.number.NumFault.TheVariants.{Fraction, TooLarge}

-- DIGIT
abbrev pub is_digit : ℕ → Bool
is_digit b = nat_lt 47 b && nat_lt b 58

-- ---- the parts of a number

-- its minus, int, the digits of frac, the minus of exp and the digits of exp
pub record Token : Type 0 where
  pub negative : Bool
  pub whole : List ℕ
  pub fraction : List ℕ
  pub lowers : Bool
  pub exponent : List ℕ

-- 1*DIGIT: all digits at the front, and the bytes after them
abbrev pub digits_at : List ℕ → Option (List ℕ × List ℕ)
digits_at b = cond (prefix_len is_digit b == 0) None (Some (take (prefix_len is_digit b) b, drop (prefix_len is_digit b) b))

-- int: 0, or digits that don't begin with it
abbrev pub int_at : List ℕ → Option (List ℕ × List ℕ)
int_at [] = None
int_at (b ∷ bs) = cond (b == 48) (Some (48 ∷ [], bs)) (digits_at (b ∷ bs))

-- [ frac ]: its digits
abbrev pub frac_at : List ℕ → Option (List ℕ × List ℕ)
frac_at [] = Some ([], [])
frac_at (b ∷ bs) = cond (b == 46) (digits_at bs) (Some ([], b ∷ bs))

-- an exponent: whether it has a minus, and its digits
abbrev pub Exp : Type 0
Exp = Bool × List ℕ

abbrev pub signed_digits : Bool → Option (List ℕ × List ℕ) → Option (Exp × List ℕ)
signed_digits lowers (Some (ds, r)) = Some ((lowers, ds), r)
signed_digits lowers None = None

-- [ minus / plus ] 1*DIGIT
abbrev pub power_at : List ℕ → Option (Exp × List ℕ)
power_at [] = None
power_at (b ∷ bs) = cond (b == 45) (signed_digits true (digits_at bs)) (cond (b == 43) (signed_digits false (digits_at bs)) (signed_digits false (digits_at (b ∷ bs))))

-- [ exp ]
abbrev pub exp_at : List ℕ → Option (Exp × List ℕ)
exp_at [] = Some ((false, []), [])
exp_at (b ∷ bs) = cond (b == 69 || b == 101) (power_at bs) (Some ((false, []), b ∷ bs))

-- a number ends before a byte that stands in none
abbrev pub ends_number : List ℕ → Bool
ends_number [] = true
ends_number (b ∷ bs) = not (is_digit b || (b == 46 || (b == 69 || (b == 101 || (b == 43 || b == 45)))))

infixl 10 ◌>>=◌
abbrev pub ◌>>=◌ : {A B : Type 0} → Option A → (A → Option B) → Option B
None >>= f = None
(Some x) >>= f = f x

-- int [ frac ] [ exp ]
abbrev pub unsigned_at : Bool → List ℕ → Option (Token × List ℕ)
unsigned_at negative bytes = do
  i ← int_at bytes
  f ← frac_at i.1
  e ← exp_at f.1
  cond (ends_number e.1) (Some (record { negative = negative; whole = i.0; fraction = f.0; lowers = e.0.0; exponent = e.0.1 }, e.1)) None

-- number: [ minus ] int [ frac ] [ exp ], and the bytes after it
unfoldable pub number_at : List ℕ → Option (Token × List ℕ)
number_at [] = None
number_at (b ∷ bs) = cond (b == 45) (unsigned_at true bs) (unsigned_at false (b ∷ bs))

-- ---- exact values

-- what the digits stand for after others that stand for v, and by themselves
abbrev pub value_after : ℕ → List ℕ → ℕ
value_after v [] = v
value_after v (b ∷ bs) = value_after (10 * v + (b - 48)) bs

abbrev pub value_of : List ℕ → ℕ
value_of digits = value_after 0 digits

-- digits * 10 ^ up / 10 ^ down, below zero if it is negative
pub record Decimal : Type 0 where
  pub negative : Bool
  pub digits : ℕ
  pub up : ℕ
  pub down : ℕ

-- what a number stands for
abbrev pub exact : Token → Decimal
exact t = record {
  negative = t.negative;
  digits = value_of (t.whole ++ t.fraction);
  up = if t.lowers then 0 else value_of t.exponent;
  down = length t.fraction + (if t.lowers then value_of t.exponent else 0);
}

-- ---- what is read of an exact value (own): whole numbers of 64 bits, and 11/10

-- it is whole where 10 ^ down divides digits * 10 ^ up
abbrev pub is_whole : Decimal → Bool
is_whole x = x.digits * 10 ^ x.up % 10 ^ x.down == 0

-- how large a whole one is
abbrev pub size : Decimal → ℕ
size x = x.digits * 10 ^ x.up / 10 ^ x.down

-- it is 11/10
abbrev pub is_one_one : Decimal → Bool
is_one_one x = not x.negative && (x.digits * 10 ^ x.up * 10 == 11 * 10 ^ x.down)

-- 64 bits hold it
abbrev pub is_held : Bool → ℕ → Bool
is_held negative n = if negative then nat_le n (2 ^ 63) else nat_lt n (2 ^ 63)

abbrev pub signed : Bool → ℕ → ℤ
signed negative n = if negative then neg_ℤ (pos n) else pos n

abbrev pub whole_num : Bool → ℕ → Result Num NumFault
whole_num negative n = if is_held negative n then Ok (Whole (signed negative n)) else Err TooLarge

-- what an exact value is read as, or why it isn't read
abbrev pub num_of : Decimal → Result Num NumFault
num_of x = if is_whole x then whole_num x.negative (size x) else (if is_one_one x then Ok OneOne else Err Fraction)
