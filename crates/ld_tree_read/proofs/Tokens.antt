-- The parts of a number, one after the other.
use Rattle.std.proofs.Common.{◌≡◌, ◌∙◌, refl, sym, ap, ap₂, subst, ℕ, ◌+◌, ◌<◌, Bool, true, false, not, ◌||◌, cond, nat_eq, nat_lt, List, [], ◌∷◌, Option, Some, None, arith}
use Rattle.ld_tree_read.specs.declared.cursor.Cursor.{Cursor}
use Rattle.ld_tree_read.specs.State.{Level}
use Rattle.ld_tree_read.specs.State.{in_list, in_map}
use Rattle.ld_tree_read.specs.Cursor.{left, ahead}
use Rattle.ld_tree.specs.Numbers.{is_digit}
use Rattle.ld_tree.specs.Numbers.{ends_number}
use Rattle.ld_tree_read.specs.Refusals.{refusal, takes_value, plain_refusal, byte_refusal}
use Rattle.ld_tree.specs.Reading.{is_white}
use Rattle.ld_tree_read.specs.State.{Here, minus, zero_digit, whole, point, fraction, exponent, sign, power, done, step, behind, scale_from, fraction_from}
use Rattle.ld_tree_read.specs.Steps.{Digits, NoDigit}
use Rattle.ld_tree_read.proofs.Follows.{goes, stops, no_value, alike}
use Rattle.ld_tree_read.proofs.Powers.{both}
use Rattle.ld_tree_read.proofs.Scaled.{passed, same_nat}
use Rattle.std.proofs.lemmas.Bool.{ltb-true}

pub not_byte : (b k : ℕ) → (b ≡ k → ⊥) → nat_eq b k ≡ false
not_byte b k other = go (nat_eq b k) refl
  where
    go : (v : Bool) → nat_eq b k ≡ v → nat_eq b k ≡ false
    go false e = e
    go true e = absurd (other (same_nat b k e))

pub digit_bounds : (b : ℕ) → is_digit b ≡ true → (47 < b) × (b < 58)
digit_bounds b h = let w = both (nat_lt 47 b) (nat_lt b 58) h in (ltb-true 47 b w.0, ltb-true b 58 w.1)

-- one byte, from a cursor to the next
pub on : (c d : Cursor) (fs gs : List Level) (here there : Here) (b : ℕ) → left c ≡ b ∷ left d → d.at ≡ c.at + 1 → takes_value here ≡ false → step fs here b ≡ Some (gs, there) → ahead c fs here ≡ ahead d gs there
on c d fs gs here there b e at v s =
    ap (refusal c.at fs here) e ∙ goes c.at fs here b (left d) (no_value c.at fs here b (left d) v) s ∙ ap (λ n. refusal n gs there (left d)) (sym at)

-- the same bytes at the same place
pub still : (c d : Cursor) (fs : List Level) (here : Here) → left d ≡ left c → d.at ≡ c.at → ahead c fs here ≡ ahead d fs here
still c d fs here e at = ap₂ (λ n bs. refusal n fs here bs) (sym at) (sym e)

pub stuck : (at : ℕ) (fs : List Level) (here : Here) (b : ℕ) (r : List ℕ) → takes_value here ≡ false → step fs here b ≡ None → refusal at fs here (b ∷ r) ≡ Some (byte_refusal at here b)
stuck at fs here b r v s = stops at fs here b r (no_value at fs here b r v) s

pub behind_none : (fs : List Level) (b : ℕ) → is_white b ≡ false → nat_eq b 44 ≡ false → nat_eq b 93 ≡ false → nat_eq b 125 ≡ false → behind fs b ≡ None
behind_none [] b w x y z = passed (is_white b) (Some ([], done)) None w
behind_none (in_list ∷ fs) b w x y z = rw (w, x, y) refl
behind_none (in_map ∷ fs) b w x y z = rw (w, x, z) refl

pub digit_none : (fs : List Level) (b : ℕ) → is_digit b ≡ true → behind fs b ≡ None
digit_none fs b h =
    let w = digit_bounds b h in
    behind_none fs b (rw (not_byte b 32 (λ e. omega (arith, e, w.0)), not_byte b 9 (λ e. omega (arith, e, w.0)), not_byte b 10 (λ e. omega (arith, e, w.0)), not_byte b 13 (λ e. omega (arith, e, w.0))) refl)
    (not_byte b 44 (λ e. omega (arith, e, w.0))) (not_byte b 93 (λ e. omega (arith, e, w.1))) (not_byte b 125 (λ e. omega (arith, e, w.1)))

-- int
pub zero_first : (fs : List Level) → step fs minus 48 ≡ Some (fs, zero_digit)
unfolding step
zero_first fs = refl

pub digit_stays : (fs : List Level) (here : Here) (b : ℕ) (other : Option (List Level × Here)) → is_digit b ≡ true → cond (is_digit b) (Some (fs, here)) other ≡ Some (fs, here)
digit_stays fs here b other e = ap (λ d. cond d (Some (fs, here)) other) e

pub minus_digits : (bs : List ℕ) → ((r : List ℕ) → bs ≡ 48 ∷ r → ⊥) → Digits bs minus whole
unfolding step
minus_digits bs no_zero = record {
  from = refl;
  to = refl;
  between = refl;
  going = λ fs. refl;
  first = λ fs b r e d. rw (not_byte b 48 (λ is. no_zero r (e ∙ ap (λ b. b ∷ r) is)), d) refl;
  other = λ fs b r e d. rw (not_byte b 48 (λ is. no_zero r (e ∙ ap (λ b. b ∷ r) is)), d) refl;
  more = λ fs b d. digit_stays fs whole b (fraction_from fs b) d;
}

pub whole_ends : (at : ℕ) (fs : List Level) (bs : List ℕ) → NoDigit bs → refusal at fs whole bs ≡ refusal at fs zero_digit bs
unfolding step
whole_ends at fs bs end = alike fs whole zero_digit at bs refl refl refl
    (λ b r e. (passed (is_digit b) (Some (fs, whole)) (fraction_from fs b) (end b r e), refl))

pub zero_stops : (at : ℕ) (fs : List Level) (b : ℕ) (r : List ℕ) → is_digit b ≡ true → refusal at fs zero_digit (b ∷ r) ≡ Some (plain_refusal at (b ∷ r))
unfolding step
zero_stops at fs b r d =
    let w = digit_bounds b d in
    stuck at fs zero_digit b r refl (rw (not_byte b 46 (λ e. omega (arith, e, w.0)), not_byte b 69 (λ e. omega (arith, e, w.1)), not_byte b 101 (λ e. omega (arith, e, w.1))) (digit_none fs b d))

-- frac
pub point_next : (fs : List Level) → step fs zero_digit 46 ≡ Some (fs, point)
unfolding step
point_next fs = refl

pub point_digits : (bs : List ℕ) → Digits bs point fraction
unfolding step
point_digits bs = record {
  from = refl;
  to = refl;
  between = refl;
  going = λ fs. refl;
  first = λ fs b r e d. digit_stays fs fraction b None d;
  other = λ fs b r e d. passed (is_digit b) (Some (fs, fraction)) None d;
  more = λ fs b d. digit_stays fs fraction b (scale_from fs b) d;
}

pub no_frac : (at : ℕ) (fs : List Level) (bs : List ℕ) → NoDigit bs → ((r : List ℕ) → bs ≡ 46 ∷ r → ⊥) → refusal at fs zero_digit bs ≡ refusal at fs fraction bs
unfolding step
no_frac at fs bs end other = alike fs zero_digit fraction at bs refl refl refl
    (λ b r e. (rw (not_byte b 46 (λ is. other r (e ∙ ap (λ b. b ∷ r) is)), end b r e) refl, refl))

-- exp
pub small_letter : (fs : List Level) → step fs fraction 101 ≡ Some (fs, exponent)
unfolding step
small_letter fs = refl

pub large_letter : (fs : List Level) → step fs fraction 69 ≡ Some (fs, exponent)
unfolding step
large_letter fs = refl

pub minus_next : (fs : List Level) → step fs exponent 45 ≡ Some (fs, sign)
unfolding step
minus_next fs = refl

pub plus_next : (fs : List Level) → step fs exponent 43 ≡ Some (fs, sign)
unfolding step
plus_next fs = refl

pub sign_digits : (bs : List ℕ) → Digits bs sign power
unfolding step
sign_digits bs = record {
  from = refl;
  to = refl;
  between = refl;
  going = λ fs. refl;
  first = λ fs b r e d. digit_stays fs power b None d;
  other = λ fs b r e d. passed (is_digit b) (Some (fs, power)) None d;
  more = λ fs b d. digit_stays fs power b (behind fs b) d;
}

pub exponent_digits : (bs : List ℕ) → ((r : List ℕ) → bs ≡ 45 ∷ r → ⊥) → ((r : List ℕ) → bs ≡ 43 ∷ r → ⊥) → Digits bs exponent power
unfolding step
exponent_digits bs no_minus no_plus = record {
  from = refl;
  to = refl;
  between = refl;
  going = λ fs. refl;
  first = λ fs b r e d. rw (not_byte b 43 (λ is. no_plus r (e ∙ ap (λ b. b ∷ r) is)), not_byte b 45 (λ is. no_minus r (e ∙ ap (λ b. b ∷ r) is)), d) refl;
  other = λ fs b r e d. rw (not_byte b 43 (λ is. no_plus r (e ∙ ap (λ b. b ∷ r) is)), not_byte b 45 (λ is. no_minus r (e ∙ ap (λ b. b ∷ r) is)), d) refl;
  more = λ fs b d. digit_stays fs power b (behind fs b) d;
}

pub no_exp : (at : ℕ) (fs : List Level) (bs : List ℕ) → NoDigit bs → ((r : List ℕ) → bs ≡ 101 ∷ r → ⊥) → ((r : List ℕ) → bs ≡ 69 ∷ r → ⊥) → refusal at fs fraction bs ≡ refusal at fs done bs
unfolding step
no_exp at fs bs end small large = alike fs fraction done at bs refl refl refl
    (λ b r e. (rw (end b r e, not_byte b 69 (λ is. large r (e ∙ ap (λ b. b ∷ r) is)), not_byte b 101 (λ is. small r (e ∙ ap (λ b. b ∷ r) is))) refl, refl))

pub power_ends : (at : ℕ) (fs : List Level) (bs : List ℕ) → NoDigit bs → refusal at fs power bs ≡ refusal at fs done bs
unfolding step
power_ends at fs bs end = alike fs power done at bs refl refl refl
    (λ b r e. (passed (is_digit b) (Some (fs, power)) (behind fs b) (end b r e), refl))

-- a byte behind a number that belongs to none
pub bad_step : (fs : List Level) (b : ℕ) (r : List ℕ) → ends_number (b ∷ r) ≡ false → behind fs b ≡ None
bad_step fs b r e = go (is_digit b) (nat_eq b 46) (nat_eq b 69) (nat_eq b 101) (nat_eq b 43) (nat_eq b 45) refl refl refl refl refl refl e
  where
    known : (k : ℕ) → nat_eq b k ≡ true → behind fs k ≡ None → behind fs b ≡ None
    known k is none = subst (λ b. behind fs b ≡ None) (sym (same_nat b k is)) none

    go : (d p q s t u : Bool) → is_digit b ≡ d → nat_eq b 46 ≡ p → nat_eq b 69 ≡ q → nat_eq b 101 ≡ s → nat_eq b 43 ≡ t → nat_eq b 45 ≡ u → not (d || (p || (q || (s || (t || u))))) ≡ false → behind fs b ≡ None
    go true p q s t u hd hp hq hs ht hu h = digit_none fs b hd
    go false true q s t u hd hp hq hs ht hu h = known 46 hp (behind_none fs 46 refl refl refl refl)
    go false false true s t u hd hp hq hs ht hu h = known 69 hq (behind_none fs 69 refl refl refl refl)
    go false false false true t u hd hp hq hs ht hu h = known 101 hs (behind_none fs 101 refl refl refl refl)
    go false false false false true u hd hp hq hs ht hu h = known 43 ht (behind_none fs 43 refl refl refl refl)
    go false false false false false true hd hp hq hs ht hu h = known 45 hu (behind_none fs 45 refl refl refl refl)
    go false false false false false false hd hp hq hs ht hu h = cc

pub bad_end : (at : ℕ) (fs : List Level) (bs : List ℕ) → ends_number bs ≡ false → refusal at fs done bs ≡ Some (plain_refusal at bs)
unfolding step
bad_end at fs [] e = cc
bad_end at fs (b ∷ r) e = stuck at fs done b r refl (bad_step fs b r e)
