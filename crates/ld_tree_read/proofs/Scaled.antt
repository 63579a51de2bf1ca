-- What significant digits with zeros and places stand for.
use Rattle.std.proofs.Common.{◌≡◌, ◌∙◌, refl, sym, ap, ℕ, ◌+◌, ◌-◌, ◌*◌, ◌/◌, ◌%◌, ◌^◌, ◌<◌, ◌≤◌, Bool, true, false, not, true≢false, cond, nat_eq, nat_lt, nat_le, Option, Some, None, Ok, Err, min, inl, inr, ◌⊎◌, [], ◌++◌, length, arith, le-ltb, rules, eq-eqb}
use Rattle.std.specs.Prelude.{pos, neg_ℤ}
use Rattle.std.proofs.lemmas.Bool.{lt-leb}
use Rattle.std.specs.Option.{option_eq}
use Rattle.std.proofs.lemmas.Nat.{pow-add}
use Rattle.std.proofs.Math.Nat.{mul_assoc}
use Rattle.ld_tree.specs.declared.tree.Num.TheVariants.{Whole, OneOne}
use Rattle.ld_tree.specs.declared.number.NumFault.TheVariants.{Fraction, TooLarge}
use Rattle.ld_tree_read.specs.Digits.{IsScaled, IsHeld, Stands}
use Rattle.ld_tree.specs.Numbers.{Decimal, whole_num, is_whole, is_one_one, size, num_of, Token, exact, value_of}
use Rattle.ld_tree_read.proofs.Powers.{grows, at_least, no_rest, quotient, some_rest, eleven, eleven_is, held_some, both, all_so}

pub chosen : {A : Type 0} (b : Bool) (x y : A) → b ≡ true → cond b x y ≡ x
chosen true x y e = refl
chosen false x y e = cc

pub passed : {A : Type 0} (b : Bool) (x y : A) → b ≡ false → cond b x y ≡ y
passed true x y e = cc
passed false x y e = refl

-- what 64 bits don't hold
too_large : (negative : Bool) (n : ℕ) → 2 ^ 64 ≤ n → whole_num negative n ≡ Err TooLarge
too_large true n le = passed (nat_le n (2 ^ 63)) (Ok (Whole (neg_ℤ (pos n)))) (Err TooLarge) (lt-leb n (2 ^ 63) (omega (arith, le)))
too_large false n le = passed (nat_lt n (2 ^ 63)) (Ok (Whole (pos n))) (Err TooLarge) (le-ltb n (2 ^ 63) (omega (arith, le)))

pub many_zeros : (negative : Bool) (top exact given : ℕ) → (top ≡ 0 → ⊥) → min exact 20 ≡ min given 20 → 20 ≤ given → whole_num negative (top * 10 ^ exact) ≡ Err TooLarge
many_zeros negative top exact given some e le =
    let p : top * 10 ^ 20 ≤ top * 10 ^ exact = grows top {k = 20} {n = exact} (omega (arith, e, le)) in
    too_large negative (top * 10 ^ exact) (omega (arith, p, some))

pub many_digits : (negative : Bool) (top exact : ℕ) → 2 ^ 64 ≤ top → whole_num negative (top * 10 ^ exact) ≡ Err TooLarge
many_digits negative top exact le = let g = at_least top exact in too_large negative (top * 10 ^ exact) (omega (arith, g, le))

pub same_nat : (a b : ℕ) → nat_eq a b ≡ true → a ≡ b
same_nat a b e = search rules

-- what `==` says
pub is_it : (s : Option ℕ) (n : ℕ) → true ≡ option_eq nat_eq s (Some n) → s ≡ Some n
is_it None n e = cc
is_it (Some v) n e = ap Some (same_nat v n (sym e))

pub is_not : (s : Option ℕ) (n : ℕ) → false ≡ option_eq nat_eq s (Some n) → s ≡ Some n → ⊥
is_not None n e is = cc
is_not (Some v) n e is = true≢false (sym (eq-eqb v n (let w : v ≡ n = cc in w)) ∙ sym e)

is_zero : (n : ℕ) → n ≡ 0 → nat_eq n 0 ≡ true
is_zero n e = eq-eqb n 0 e

module _ {x : Decimal} {significant : Option ℕ} {up down : ℕ} (h : IsScaled x significant up down) (some : significant ≡ Some 0 → ⊥) where
  abbrev above : ℕ
  above = x.digits * 10 ^ x.up

  pub some_top : h.top ≡ 0 → ⊥
  some_top none = some (go significant h.held)
    where
      go : (s : Option ℕ) → IsHeld s h.top → s ≡ Some 0
      go (Some v) held = ap Some (held ∙ none)
      go None held = absurd (omega (arith, held, none))

  ends : (q : ℕ) → h.top ≡ 10 * q → ⊥
  ends q e = some_top (h.ends q e)

  module _ (le : down ≤ up) where
    real : x.down ≤ h.zeros
    real = elim h.one_low [ inl low ↦ omega (arith, le, h.up_is, h.down_is, low) | inr low ↦ omega (arith, le, h.up_is, h.down_is, low) ]

    pub zeros_left : min (h.zeros - x.down) 20 ≡ min (up - down) 20
    zeros_left = elim h.one_low [ inl low ↦ omega (arith, real, h.up_is, h.down_is, low) | inr low ↦ omega (arith, real, h.up_is, h.down_is, low) ]

    pub whole_is : num_of x ≡ whole_num x.negative (h.top * 10 ^ (h.zeros - x.down))
    whole_is =
        chosen (is_whole x) (whole_num x.negative (size x)) (cond (is_one_one x) (Ok OneOne) (Err Fraction)) (is_zero (above % 10 ^ x.down) (ap (λ n. n % 10 ^ x.down) h.value ∙ no_rest h.top h.zeros x.down real))
        ∙ ap (whole_num x.negative) (ap (λ n. n / 10 ^ x.down) h.value ∙ quotient h.top h.zeros x.down real)

  module _ (lt : up < down) where
    unreal : h.zeros < x.down
    unreal = omega (arith, lt, h.up_is, h.down_is)

    part : num_of x ≡ cond (is_one_one x) (Ok OneOne) (Err Fraction)
    part = passed (is_whole x) (whole_num x.negative (size x)) (cond (is_one_one x) (Ok OneOne) (Err Fraction)) (at (nat_eq (above % 10 ^ x.down) 0) refl)
      where
        at : (b : Bool) → nat_eq (above % 10 ^ x.down) 0 ≡ b → nat_eq (above % 10 ^ x.down) 0 ≡ false
        at false e = e
        at true e = absurd (some_rest h.top h.zeros x.down unreal ends (ap (λ n. n % 10 ^ x.down) (sym h.value) ∙ same_nat (above % 10 ^ x.down) 0 e))

    one_place : x.down ≡ h.zeros + 1 → down - up ≡ 1
    one_place e = elim h.one_low [ inl low ↦ omega (arith, e, h.up_is, h.down_is, low) | inr low ↦ omega (arith, e, h.up_is, h.down_is, low) ]

    pub eleven_tenths : x.negative ≡ false → significant ≡ Some 11 → down - up ≡ 1 → num_of x ≡ Ok OneOne
    eleven_tenths neg is one =
        let top = held_some 11 is h.held in
        let place : x.down ≡ h.zeros + 1 = elim h.one_low [ inl low ↦ omega (arith, one, h.up_is, h.down_is, low) | inr low ↦ omega (arith, one, h.up_is, h.down_is, low) ] in
        part ∙ chosen (is_one_one x) (Ok OneOne) (Err Fraction) (all_so (not x.negative) (nat_eq (above * 10) (11 * 10 ^ x.down)) (ap not neg) (eq-eqb (above * 10) (11 * 10 ^ x.down) (ap (λ n. n * 10) h.value ∙ eleven_is h.top h.zeros x.down (sym top) place)))

    pub no_eleven_tenths : (x.negative ≡ false → significant ≡ Some 11 → down - up ≡ 1 → ⊥) → num_of x ≡ Err Fraction
    no_eleven_tenths other = part ∙ passed (is_one_one x) (Ok OneOne) (Err Fraction) (at (is_one_one x) refl)
      where
        eleven_held : (s : Option ℕ) → IsHeld s h.top → h.top ≡ 11 → s ≡ Some 11
        eleven_held (Some v) e is = ap Some (e ∙ is)
        eleven_held None e is = absurd (omega (arith, e, is))

        at : (b : Bool) → is_one_one x ≡ b → is_one_one x ≡ false
        at false e = e
        at true e =
            let parts = both (not x.negative) (nat_eq (above * 10) (11 * 10 ^ x.down)) e in
            let is = eleven h.top h.zeros x.down unreal ends (ap (λ n. n * 10) (sym h.value) ∙ same_nat (above * 10) (11 * 10 ^ x.down) parts.1) in
            absurd (other (not_not x.negative parts.0) (eleven_held significant h.held is.0) (one_place is.1))
          where
            not_not : (b : Bool) → not b ≡ true → b ≡ false
            not_not true e = sym e
            not_not false e = refl

-- the powers of a number
raised : (b : Bool) (z e v m up : ℕ) → e ≡ min v m → up ≡ min (z + cond b 0 e) m → up ≡ min (z + cond b 0 v) m
raised true z e v m up is h = h
raised false z e v m up is h = omega (arith, is, h)

lowered : (b : Bool) (f e v m down : ℕ) → e ≡ min v m → down ≡ min (cond b e 0 + f) m → down ≡ min (f + cond b v 0) m
lowered true f e v m down is h = omega (arith, is, h)
lowered false f e v m down is h = omega (arith, is, h)

one_low : (b : Bool) (z f v n : ℕ) → z < n → f < n → (z + cond b 0 v < n) ⊎ (f + cond b v 0 < n)
one_low true z f v n low _ = inl (omega (arith, low))
one_low false z f v n _ low = inr (omega (arith, low))

pub scaled_of : (t : Token) (s : Option ℕ) (z e up down : ℕ) → Stands s z (t.whole ++ t.fraction) → z < 2 ^ 63 → length t.fraction < 2 ^ 63 → e ≡ min (value_of t.exponent) (2 ^ 64 - 1)
    → up ≡ min (z + cond t.lowers 0 e) (2 ^ 64 - 1) → down ≡ min (cond t.lowers e 0 + length t.fraction) (2 ^ 64 - 1) → IsScaled (exact t) s up down
scaled_of t s z e up down h few short is up_is down_is =
    let v = value_of t.exponent in
    record {
      top = h.top;
      zeros = z + cond t.lowers 0 v;
      held = h.held;
      ends = h.ends;
      value = ap (λ n. n * 10 ^ cond t.lowers 0 v) h.value ∙ mul_assoc h.top (10 ^ z) (10 ^ cond t.lowers 0 v) ∙ ap (λ n. h.top * n) (sym (pow-add 10 z (cond t.lowers 0 v)));
      up_is = raised t.lowers z e v (2 ^ 64 - 1) up is up_is;
      down_is = lowered t.lowers (length t.fraction) e v (2 ^ 64 - 1) down is down_is;
      one_low = one_low t.lowers z (length t.fraction) v (2 ^ 63) few short;
    }

pub no_digits : Stands (Some 0) 0 []
no_digits = record { top = 0; held = refl; value = refl; ends = λ q e. refl; no_zeros = λ e. refl }
