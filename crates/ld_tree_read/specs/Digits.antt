-- Digits that have been gone over.
use Rattle.std.specs.Prelude.{◌≡◌, ℕ, ◌+◌, ◌-◌, ◌⊎◌, min, ◌*◌, ◌^◌, ◌<◌, ◌≤◌, true, length, slice_index, List, Option, Some, None}
use Rattle.ld_tree.specs.Numbers.{value_of, is_digit, Token, Decimal}
use Rattle.ld_tree_read.specs.declared.decimal.Number.{Number}

-- the parts that slices hold
abbrev pub token : Number → Token
token n = record { negative = n.negative; whole = n.whole.now; fraction = n.fraction.now; lowers = n.lowers; exponent = n.exponent.now }

-- each byte is a digit
abbrev pub AreDigits : List ℕ → Type 0
AreDigits ds = (k : ℕ) → k < length ds → is_digit (slice_index ds k) ≡ true

-- what a number has room for
pub record IsSmall (n : Number) : Type 0 where
  pub whole : AreDigits n.whole.now
  pub fraction : AreDigits n.fraction.now
  pub exponent : AreDigits n.exponent.now
  pub room : length n.whole.now + length n.fraction.now < 2 ^ 63

-- the number, or that it is too large for 64 bits
abbrev pub IsHeld : Option ℕ → ℕ → Type 0
IsHeld (Some v) n = v ≡ n
IsHeld None n = 2 ^ 64 ≤ n

-- the digits stand for top * 10 ^ zeros, where top doesn't end in 0
pub record Stands (significant : Option ℕ) (zeros : ℕ) (digits : List ℕ) : Type 0 where
  pub top : ℕ
  pub held : IsHeld significant top
  pub value : value_of digits ≡ top * 10 ^ zeros
  pub ends : (q : ℕ) → top ≡ 10 * q → top ≡ 0
  pub no_zeros : top ≡ 0 → zeros ≡ 0

-- the value is top * 10 ^ zeros / 10 ^ down, where top doesn't end in 0; the two powers as far as 64 bits go
pub record IsScaled (x : Decimal) (significant : Option ℕ) (up down : ℕ) : Type 0 where
  pub top : ℕ
  pub zeros : ℕ
  pub held : IsHeld significant top
  pub ends : (q : ℕ) → top ≡ 10 * q → top ≡ 0
  pub value : x.digits * 10 ^ x.up ≡ top * 10 ^ zeros
  pub up_is : up ≡ min zeros (2 ^ 64 - 1)
  pub down_is : down ≡ min x.down (2 ^ 64 - 1)
  pub one_low : (zeros < 2 ^ 63) ⊎ (x.down < 2 ^ 63)
