-- Through the characters of a string.
use Rattle.std.proofs.Common.{◌≡◌, ◌∙◌, refl, sym, ap, ℕ, ◌+◌, ◌*◌, ◌<◌, ◌≤◌, Bool, true, false, not, ◌&&◌, ◌||◌, true≢false, nat_eq, nat_lt, List, ◌∷◌, Option, Some, None, arith, inl, inr, lt-ltb}
use Rattle.std.proofs.lemmas.Bool.{cases_lt, ltb-true}
use Rattle.std.proofs.lemmas.Option.{same_Some}
use Rattle.ld_tree.specs.Reading.{hex, more_hex, hex4, is_high_half, is_low_half}
use Rattle.ld_tree_read.specs.Grammar.{IsRest, no_rest, rest, IsChar, ascii, longer, letter, unit, pair, IsChars, closing, char}
use Rattle.ld_tree_read.specs.State.{Inside, plain, slash, first, second, digits, high, low_slash, low_u, low_first, low_second, begun, Tail, tail, inside, is_plain, lead, rest_left}
use Rattle.ld_tree_read.proofs.Between.{neither}
use Rattle.ld_tree_read.proofs.Inner.{hex_low, digits_step, high_step, first_plain, first_d, second_plain, second_high, low_first_step, low_second_step, low_slash_step, low_u_step, slash_u, slash_letter, plain_ascii, plain_lead, plain_slash, tail_step}
use Rattle.ld_tree_read.proofs.Powers.{both}
use Rattle.ld_tree_read.proofs.Scaled.{chosen, same_nat}
use Rattle.ld_tree_read.proofs.Tokens.{not_byte}

-- what holds before a byte that leads on, where it holds behind it
module _ (In : Inside → List ℕ → Type 0) (inner : (i j : Inside) (b : ℕ) (bs : List ℕ) → is_plain i && nat_eq b 34 ≡ false → inside i b ≡ Some j → In j bs → In i (b ∷ bs)) where
  pub rest_from : {k : ℕ} {c r : List ℕ} → IsRest k c r → In plain r → In (rest_left k) c
  rest_from no_rest h = h
  rest_from (rest {n = k} b {c = c} is w) h = inner (begun (tail 128 191 k)) (rest_left k) b c refl (tail_step (tail 128 191 k) b is) (rest_from w h)

  -- the last two digits
  two : (c d vc vd : ℕ) (r : List ℕ) → hex c ≡ Some vc → hex d ≡ Some vd → In plain r → In (digits 1) (c ∷ d ∷ r)
  two c d vc vd r ec ed h = inner (digits 1) (digits 0) c (d ∷ r) refl (digits_step c vc ec 1) (inner (digits 0) plain d r refl (digits_step d vd ed 0) h)

  high_two : (c d vc vd : ℕ) (r : List ℕ) → hex c ≡ Some vc → hex d ≡ Some vd → In low_slash r → In (high 1) (c ∷ d ∷ r)
  high_two c d vc vd r ec ed h = inner (high 1) (high 0) c (d ∷ r) refl (high_step c vc ec 1) (inner (high 0) low_slash d r refl (high_step d vd ed 0) h)

-- four digits
pub record Four (a b c d u : ℕ) : Type 0 where
  pub va : ℕ
  pub vb : ℕ
  pub vc : ℕ
  pub vd : ℕ
  pub a_is : hex a ≡ Some va
  pub b_is : hex b ≡ Some vb
  pub c_is : hex c ≡ Some vc
  pub d_is : hex d ≡ Some vd
  pub value : u ≡ 4096 * va + 256 * vb + 16 * vc + vd

more_some : (x y : Option ℕ) (u : ℕ) → more_hex x y ≡ Some u → (v d : ℕ) × (x ≡ Some v) × (y ≡ Some d) × (u ≡ 16 * v + d)
more_some None y u h = absurd (let w : None ≡ Some u = h in cc)
more_some (Some v) None u h = absurd (let w : None ≡ Some u = h in cc)
more_some (Some v) (Some d) u h = (v, d, refl, refl, sym (same_Some (16 * v + d) u h))

pub four : (a b c d u : ℕ) → hex4 a b c d ≡ Some u → Four a b c d u
four a b c d u h =
    let (v3, vd, e3, ed, u3) = more_some (more_hex (more_hex (more_hex (Some 0) (hex a)) (hex b)) (hex c)) (hex d) u h in
    let (v2, vc, e2, ec, u2) = more_some (more_hex (more_hex (Some 0) (hex a)) (hex b)) (hex c) v3 e3 in
    let (v1, vb, e1, eb, u1) = more_some (more_hex (Some 0) (hex a)) (hex b) v2 e2 in
    let (v0, va, e0, ea, u0) = more_some (Some 0) (hex a) v1 e1 in
    let zero = same_Some 0 v0 e0 in
    record { va = va; vb = vb; vc = vc; vd = vd; a_is = ea; b_is = eb; c_is = ec; d_is = ed; value = omega (arith, u0, u1, u2, u3, zero) }

test_two : (u low up : ℕ) → low < u → u < up → nat_lt low u && nat_lt u up ≡ true
test_two u low up a b = rw (lt-ltb low u a, lt-ltb u up b) refl

-- a unit that begins with D and is no half has a second digit below 8
no_half : {a b c d u : ℕ} (f : Four a b c d u) → f.va ≡ 13 → is_high_half u || is_low_half u ≡ false → f.vb < 8
no_half {a} {b} {c} {d} {u} f is out = elim (cases_lt f.vb 8) [
  | inl lt ↦ lt
  | inr le ↦ absurd (
      let no = neither (is_high_half u) (is_low_half u) out in
      let val = f.value in
      let lb = hex_low b f.vb f.b_is in
      let lc = hex_low c f.vc f.c_is in
      let ld = hex_low d f.vd f.d_is in
      elim (cases_lt u 56320) [
        | inl low ↦ true≢false (sym (test_two u 55295 56320 (omega (arith, val, is, le)) low) ∙ no.0)
        | inr up ↦ true≢false (sym (test_two u 56319 57344 (omega (arith, up)) (omega (arith, val, is, lb, lc, ld))) ∙ no.1)
      ])
]

-- the first half of a pair, and the second
high_digits : {a b c d u : ℕ} (f : Four a b c d u) → is_high_half u ≡ true → (f.va ≡ 13) × (8 ≤ f.vb) × (f.vb ≤ 11)
high_digits {a} {b} {c} {d} {u} f h =
    let w = both (nat_lt 55295 u) (nat_lt u 56320) h in
    let low = ltb-true 55295 u w.0 in
    let up = ltb-true u 56320 w.1 in
    let val = f.value in
    let lb = hex_low b f.vb f.b_is in
    let lc = hex_low c f.vc f.c_is in
    let ld = hex_low d f.vd f.d_is in
    let first : f.va ≡ 13 = omega (arith, low, up, val, lb, lc, ld) in
    (first, omega (arith, low, val, first, lc, ld), omega (arith, up, val, first, lc, ld))

low_digits : {a b c d u : ℕ} (f : Four a b c d u) → is_low_half u ≡ true → (13 ≤ f.va) × (f.va ≤ 13) × (12 ≤ f.vb)
low_digits {a} {b} {c} {d} {u} f h =
    let w = both (nat_lt 56319 u) (nat_lt u 57344) h in
    let low = ltb-true 56319 u w.0 in
    let up = ltb-true u 57344 w.1 in
    let val = f.value in
    let lb = hex_low b f.vb f.b_is in
    let lc = hex_low c f.vc f.c_is in
    let ld = hex_low d f.vd f.d_is in
    let first : f.va ≡ 13 = omega (arith, low, up, val, lb, lc, ld) in
    (omega (arith, first), omega (arith, first), omega (arith, low, val, first, lc, ld))

pub lead_high : (b : ℕ) (t : Tail) → lead b ≡ Some t → 194 ≤ b
lead_high b t h = elim (cases_lt b 194) [
  | inl lt ↦ absurd (let w : None ≡ Some t = sym (chosen (nat_lt b 194) None _ (lt-ltb b 194 lt)) ∙ h in cc)
  | inr le ↦ le
]

module _ (In : Inside → List ℕ → Type 0) (inner : (i j : Inside) (b : ℕ) (bs : List ℕ) → is_plain i && nat_eq b 34 ≡ false → inside i b ≡ Some j → In j bs → In i (b ∷ bs)) where
  pub unit_from : {a b c d u : ℕ} (r : List ℕ) → Four a b c d u → is_high_half u || is_low_half u ≡ false → In plain r → In first (a ∷ b ∷ c ∷ d ∷ r)
  unit_from {a} {b} {c} {d} r f out h = at (nat_eq f.va 13) refl
    where
      at : (x : Bool) → nat_eq f.va 13 ≡ x → In first (a ∷ b ∷ c ∷ d ∷ r)
      at true e =
          let is = same_nat f.va 13 e in
          inner first second a (b ∷ c ∷ d ∷ r) refl (first_d a f.va f.a_is is) (inner second (digits 1) b (c ∷ d ∷ r) refl (second_plain b f.vb f.b_is (no_half f is out)) (two In inner c d f.vc f.vd r f.c_is f.d_is h))
      at false e =
          inner first (digits 2) a (b ∷ c ∷ d ∷ r) refl (first_plain a f.va f.a_is (λ is. true≢false (sym (ap (λ v. nat_eq v 13) is) ∙ e)))
          (inner (digits 2) (digits 1) b (c ∷ d ∷ r) refl (digits_step b f.vb f.b_is 2) (two In inner c d f.vc f.vd r f.c_is f.d_is h))

  pub pair_from : {a b c d u e g i j v : ℕ} (r : List ℕ) → Four a b c d u → Four e g i j v → is_high_half u && is_low_half v ≡ true → In plain r → In first (a ∷ b ∷ c ∷ d ∷ 92 ∷ 117 ∷ e ∷ g ∷ i ∷ j ∷ r)
  pair_from {a} {b} {c} {d} {u} {e} {g} {i} {j} {v} r f k halves h =
      let w = both (is_high_half u) (is_low_half v) halves in
      let (a13, b8, b11) = high_digits f w.0 in
      let (e13, e13', g12) = low_digits k w.1 in
      let low = inner low_first low_second e (g ∷ i ∷ j ∷ r) refl (low_first_step e k.va k.a_is e13 e13') (inner low_second (digits 1) g (i ∷ j ∷ r) refl (low_second_step g k.vb k.b_is g12) (two In inner i j k.vc k.vd r k.c_is k.d_is h)) in
      let next = inner low_slash low_u 92 (117 ∷ e ∷ g ∷ i ∷ j ∷ r) refl low_slash_step (inner low_u low_first 117 (e ∷ g ∷ i ∷ j ∷ r) refl low_u_step low) in
      inner first second a (b ∷ c ∷ d ∷ 92 ∷ 117 ∷ e ∷ g ∷ i ∷ j ∷ r) refl (first_d a f.va f.a_is a13)
      (inner second (high 1) b (c ∷ d ∷ 92 ∷ 117 ∷ e ∷ g ∷ i ∷ j ∷ r) refl (second_high b f.vb f.b_is b8 b11) (high_two In inner c d f.vc f.vd (92 ∷ 117 ∷ e ∷ g ∷ i ∷ j ∷ r) f.c_is f.d_is next))

  pub slashed : (j : Inside) (k : ℕ) (bs : List ℕ) → inside slash k ≡ Some j → In j bs → In plain (92 ∷ k ∷ bs)
  slashed j k bs s h = inner plain slash 92 (k ∷ bs) refl plain_slash (inner slash j k bs refl s h)

  not_true : (b : Bool) → not b ≡ true → b ≡ false
  not_true true e = sym e
  not_true false e = refl

  char_from : {b r : List ℕ} → IsChar b r → In plain r → In plain b
  char_from {r = r} (ascii b e) h =
      let w = both (nat_lt 31 b && nat_lt b 128) (not (nat_eq b 34 || nat_eq b 92)) e in
      let bounds = both (nat_lt 31 b) (nat_lt b 128) w.0 in
      let out = neither (nat_eq b 34) (nat_eq b 92) (not_true (nat_eq b 34 || nat_eq b 92) w.1) in
      let low = ltb-true 31 b bounds.0 in
      inner plain plain b r out.0 (plain_ascii b (λ is. true≢false (sym (ap (λ b. nat_eq b 92) is) ∙ out.1)) (omega (arith, low)) (ltb-true b 128 bounds.1)) h
  char_from (longer b c low up more {d = d} e is w) h =
      let big = lead_high b (tail low up more) e in
      inner plain (begun (tail low up more)) b (c ∷ d) (not_byte b 34 (λ is. omega (arith, is, big))) (plain_lead b (λ is. omega (arith, is, big)) (tail low up more) (omega (arith, big)) e)
      (inner (begun (tail low up more)) (rest_left more) c d refl (tail_step (tail low up more) c is) (rest_from In inner w h))
  char_from {r = r} (letter e is) h = slashed plain e r (slash_letter e is) h
  char_from {r = r} (unit a b c d u is out) h = slashed first 117 (a ∷ b ∷ c ∷ d ∷ r) slash_u (unit_from r (four a b c d u is) out h)
  char_from {r = r} (pair a b c d e g i j u v is is' halves) h =
      slashed first 117 (a ∷ b ∷ c ∷ d ∷ 92 ∷ 117 ∷ e ∷ g ∷ i ∷ j ∷ r) slash_u (pair_from r (four a b c d u is) (four e g i j v is') halves h)

  pub chars_from : {b r : List ℕ} → IsChars b r → In plain (34 ∷ r) → In plain b
  chars_from (closing {r = r}) h = h
  chars_from (char w ws) h = char_from w (chars_from ws h)
