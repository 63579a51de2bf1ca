-- What the bytes inside a string are by the rules, where the places that they lead to end it.
use Rattle.std.proofs.Common.{◌≡◌, ◌∙◌, refl, sym, ap, ap₂, subst, ℕ, zero, suc, ◌+◌, ◌*◌, ◌<◌, ◌≤◌, Bool, true, false, ◌&&◌, ◌||◌, cond, nat_eq, nat_lt, List, ◌∷◌, Option, Some, None, arith, inl, inr, lt-ltb, le-ltb, true≢false}
use Rattle.std.proofs.lemmas.Bool.{cases_lt, ltb-true}
use Rattle.ld_tree.specs.Reading.{hex, hex4, is_high_half, is_low_half}
use Rattle.ld_tree_read.specs.Grammar.{IsRest, no_rest, rest, ascii, longer, letter, unit, pair, IsChars, char}
use Rattle.ld_tree_read.specs.State.{Inside, plain, slash, first, second, digits, high, low_slash, low_u, low_first, low_second, begun, Tail, tail, inside, is_plain, lead, from_lead, is_next, is_letter, rest_left, digits_left, high_left, if_hex}
use Rattle.ld_tree_read.proofs.Inner.{hex_low}
use Rattle.ld_tree_read.proofs.Scaled.{same_nat}

-- by a test that a value rests on
pub split : {A G : Type 0} (t : Bool) {x y p : A} → cond t x y ≡ p → (t ≡ true → x ≡ p → G) → (t ≡ false → y ≡ p → G) → G
split true e f g = f refl e
split false e f g = g refl e

pub none_leads : {A G : Type 0} {p : A} → ◌≡◌ {A = Option A} None (Some p) → G
none_leads {A} {G} {p} e = absurd (let w : ◌≡◌ {A = Option A} None (Some p) = e in cc)

-- so many hexadecimal digits, and the bytes after them
pub data IsHexes : ℕ → List ℕ → List ℕ → Type 0 where
  no_hexes : {r : List ℕ} → IsHexes 0 r r
  hexes : {n : ℕ} (b v : ℕ) {c r : List ℕ} → hex b ≡ Some v → IsHexes n c r → IsHexes (suc n) (b ∷ c) r

-- the second half of a pair after its D: C to F, and two digits; all its digits; and with what stands before them
pub record AfterD (bs r : List ℕ) : Type 0 where
  pub f : ℕ
  pub v : ℕ
  pub c : List ℕ
  pub bytes : bs ≡ f ∷ c
  pub is : hex f ≡ Some v
  pub high : nat_lt 11 v ≡ true
  pub rest : IsHexes 2 c r

pub record LowHalf (bs r : List ℕ) : Type 0 where
  pub e : ℕ
  pub c : List ℕ
  pub bytes : bs ≡ e ∷ c
  pub is : hex e ≡ Some 13
  pub rest : AfterD c r

-- so many bytes of a character
pub data IsTail : Tail → List ℕ → List ℕ → Type 0 where
  a_tail : {low up more : ℕ} (b : ℕ) {c r : List ℕ} → is_next (tail low up more) b ≡ true → IsRest more c r → IsTail (tail low up more) (b ∷ c) r

-- what is left of a string at a place in it
abbrev pub Rest : Inside → List ℕ → List ℕ → Type 0
Rest plain bs r = IsChars bs r
Rest slash bs r = IsChars (92 ∷ bs) r
Rest first bs r = IsChars (92 ∷ 117 ∷ bs) r
Rest second bs r = (a : ℕ) → hex a ≡ Some 13 → IsChars (92 ∷ 117 ∷ a ∷ bs) r
Rest (digits n) bs r = (c : List ℕ) × IsHexes (suc n) bs c × IsChars c r
Rest (high n) bs r = (c d e : List ℕ) × IsHexes (suc n) bs c × (c ≡ 92 ∷ 117 ∷ d) × LowHalf d e × IsChars e r
Rest low_slash bs r = (d e : List ℕ) × (bs ≡ 92 ∷ 117 ∷ d) × LowHalf d e × IsChars e r
Rest low_u bs r = (d e : List ℕ) × (bs ≡ 117 ∷ d) × LowHalf d e × IsChars e r
Rest low_first bs r = (e : List ℕ) × LowHalf bs e × IsChars e r
Rest low_second bs r = (e : List ℕ) × AfterD bs e × IsChars e r
Rest (begun t) bs r = (c : List ℕ) × IsTail t bs c × IsChars c r

-- the value of four digits
four_are : (a b c d : ℕ) {va vb vc vd : ℕ} → hex a ≡ Some va → hex b ≡ Some vb → hex c ≡ Some vc → hex d ≡ Some vd → hex4 a b c d ≡ Some (16 * (16 * (16 * (16 * 0 + va) + vb) + vc) + vd)
four_are a b c d {va} {vb} {vc} {vd} ea eb ec ed = rw (ea, eb, ec, ed) refl

abbrev four : ℕ → ℕ → ℕ → ℕ → ℕ
four va vb vc vd = 16 * (16 * (16 * (16 * 0 + va) + vb) + vc) + vd

-- no half of a pair
pub below_halves : (u : ℕ) → u < 55296 → is_high_half u || is_low_half u ≡ false
below_halves u lt = rw (le-ltb 55295 u (omega (arith, lt)), le-ltb 56319 u (omega (arith, lt))) refl

above_halves : (u : ℕ) → 57343 < u → is_high_half u || is_low_half u ≡ false
above_halves u lt = rw (lt-ltb 55295 u (omega (arith, lt)), le-ltb u 56320 (omega (arith, lt)), lt-ltb 56319 u (omega (arith, lt)), le-ltb u 57344 (omega (arith, lt))) refl

no_half : (va vb vc vd : ℕ) → vb < 16 → vc < 16 → vd < 16 → (va ≡ 13 → vb < 8) → is_high_half (four va vb vc vd) || is_low_half (four va vb vc vd) ≡ false
no_half va vb vc vd lb lc ld d = elim (cases_lt va 13) [
  | inl low ↦ below_halves (four va vb vc vd) (omega (arith, low, lb, lc, ld))
  | inr le ↦ elim (cases_lt 13 va) [
    | inl up ↦ above_halves (four va vb vc vd) (omega (arith, up))
    | inr at ↦ let eight = d (omega (arith, le, at)) in below_halves (four va vb vc vd) (omega (arith, le, at, eight, lc, ld))
  ]
]

high_half : (vb vc vd : ℕ) → 8 ≤ vb → vb < 12 → vc < 16 → vd < 16 → is_high_half (four 13 vb vc vd) ≡ true
high_half vb vc vd le lt lc ld = rw (lt-ltb 55295 (four 13 vb vc vd) (omega (arith, le)), lt-ltb (four 13 vb vc vd) 56320 (omega (arith, lt, lc, ld))) refl

low_half : (vb vc vd : ℕ) → 11 < vb → vb < 16 → vc < 16 → vd < 16 → is_low_half (four 13 vb vc vd) ≡ true
low_half vb vc vd le lt lc ld = rw (lt-ltb 56319 (four 13 vb vc vd) (omega (arith, le)), lt-ltb (four 13 vb vc vd) 57344 (omega (arith, lt, lc, ld))) refl

-- an escape whose last digits are left
unit_of : (a b va vb : ℕ) {c r : List ℕ} {bs : List ℕ} → hex a ≡ Some va → hex b ≡ Some vb → (va ≡ 13 → vb < 8) → IsHexes 2 bs c → IsChars c r → IsChars (92 ∷ 117 ∷ a ∷ b ∷ bs) r
unit_of a b va vb ea eb d (hexes p vp ep (hexes q vq eq no_hexes)) w =
    char (unit a b p q (four va vb vp vq) (four_are a b p q ea eb ep eq) (no_half va vb vp vq (hex_low b vb eb) (hex_low p vp ep) (hex_low q vq eq) d)) w

pair_of : (a b vb : ℕ) {bs d e r : List ℕ} → hex a ≡ Some 13 → hex b ≡ Some vb → 8 ≤ vb → vb < 12 → IsHexes 2 bs (92 ∷ 117 ∷ d) → LowHalf d e → IsChars e r → IsChars (92 ∷ 117 ∷ a ∷ b ∷ bs) r
pair_of a b vb {d = d} {e = e} {r = r} ea eb le lt (hexes p vp ep (hexes q vq eq no_hexes)) half w =
    subst (λ d. IsChars (92 ∷ 117 ∷ a ∷ b ∷ p ∷ q ∷ 92 ∷ 117 ∷ d) r) (sym (half.bytes ∙ ap (λ c. half.e ∷ c) half.rest.bytes)) (at half.rest.rest)
  where
    at : {c : List ℕ} → IsHexes 2 c e → IsChars (92 ∷ 117 ∷ a ∷ b ∷ p ∷ q ∷ 92 ∷ 117 ∷ half.e ∷ half.rest.f ∷ c) r
    at (hexes s vs es (hexes t vt et no_hexes)) =
        char (pair a b p q half.e half.rest.f s t (four 13 vb vp vq) (four 13 half.rest.v vs vt) (four_are a b p q ea eb ep eq) (four_are half.e half.rest.f s t half.is half.rest.is es et)
        (rw (high_half vb vp vq le lt (hex_low p vp ep) (hex_low q vq eq), low_half half.rest.v vs vt (ltb-true 11 half.rest.v half.rest.high) (hex_low half.rest.f half.rest.v half.rest.is) (hex_low s vs es) (hex_low t vt et)) refl)) w

-- with a hexadecimal digit the place is known
with_hex : {j : Inside} {G : Type 0} (b : ℕ) (f : ℕ → Option Inside) → if_hex (hex b) f ≡ Some j → ((v : ℕ) → hex b ≡ Some v → f v ≡ Some j → G) → G
with_hex {j} {G} b f e g = go (hex b) refl e
  where
    go : (o : Option ℕ) → hex b ≡ o → if_hex o f ≡ Some j → G
    go (Some v) is e = g v is e
    go None is e = none_leads e

module _ (j : Inside) (bs r : List ℕ) (h : Rest j bs r) where
  there : (i : Inside) → Some i ≡ Some j → Rest i bs r
  there i e = let is : i ≡ j = cc in subst (λ i. Rest i bs r) (sym is) h

  first_rest : (b v : ℕ) → hex b ≡ Some v → Some (cond (nat_eq v 13) second (digits 2)) ≡ Some j → IsChars (92 ∷ 117 ∷ b ∷ bs) r
  first_rest b v is e = go (nat_eq v 13) refl e
    where
      go : (t : Bool) → nat_eq v 13 ≡ t → Some (cond t second (digits 2)) ≡ Some j → IsChars (92 ∷ 117 ∷ b ∷ bs) r
      go true d e = there second e b (is ∙ ap Some (same_nat v 13 d))
      go false d e = three (there (digits 2) e)
        where
          three : {bs : List ℕ} → (c : List ℕ) × IsHexes 3 bs c × IsChars c r → IsChars (92 ∷ 117 ∷ b ∷ bs) r
          three (c, hexes p vp ep w, more) = unit_of b p v vp is ep (λ at. absurd (true≢false (sym (rw at refl) ∙ d))) w more

  second_rest : (b v : ℕ) → hex b ≡ Some v → cond (nat_lt v 8) (Some (digits 1)) (cond (nat_lt v 12) (Some (high 1)) None) ≡ Some j → (a : ℕ) → hex a ≡ Some 13 → IsChars (92 ∷ 117 ∷ a ∷ b ∷ bs) r
  second_rest b v is e a ea =
      split (nat_lt v 8) e
      (λ low e. let w = there (digits 1) e in unit_of a b 13 v ea is (λ at. ltb-true v 8 low) w.1 w.2)
      (λ up e. split (nat_lt v 12) e
      (λ low e. let w = there (high 1) e in pair_of a b v ea is (at_least up) (ltb-true v 12 low) (subst (IsHexes 2 bs) w.4 w.3) w.5 w.6)
      (λ up e. none_leads e))
    where
      at_least : nat_lt v 8 ≡ false → 8 ≤ v
      at_least up = elim (cases_lt v 8) [ inl lt ↦ absurd (true≢false (sym (lt-ltb v 8 lt) ∙ up)) | inr le ↦ le ]

  digits_rest : (n b v : ℕ) → hex b ≡ Some v → Some (digits_left n) ≡ Some j → (c : List ℕ) × IsHexes (suc n) (b ∷ bs) c × IsChars c r
  digits_rest zero b v is e = (bs, hexes b v is no_hexes, there plain e)
  digits_rest (suc n) b v is e = let w = there (digits n) e in (w.0, hexes b v is w.1, w.2)

  high_rest : (n b v : ℕ) → hex b ≡ Some v → Some (high_left n) ≡ Some j → Rest (high n) (b ∷ bs) r
  high_rest zero b v is e = let w = there low_slash e in (bs, w.0, w.1, hexes b v is no_hexes, w.2, w.3, w.4)
  high_rest (suc n) b v is e = let w = there (high n) e in (w.0, w.1, w.2, hexes b v is w.3, w.4, w.5, w.6)

  -- a character of one byte
  ascii_rest : (b : ℕ) → nat_eq b 34 ≡ false → nat_lt b 32 ≡ false → nat_eq b 92 ≡ false → nat_lt b 128 ≡ true → Some plain ≡ Some j → IsChars (b ∷ bs) r
  ascii_rest b quote control back low e = char (ascii b (rw (above, low, quote, back) refl)) (there plain e)
    where
      above : nat_lt 31 b ≡ true
      above = elim (cases_lt b 32) [ inl lt ↦ absurd (true≢false (sym (lt-ltb b 32 lt) ∙ control)) | inr le ↦ lt-ltb 31 b (omega (arith, le)) ]

  longer_rest : (b : ℕ) → from_lead (lead b) ≡ Some j → IsChars (b ∷ bs) r
  longer_rest b e = go (lead b) refl e
    where
      go : (t : Option Tail) → lead b ≡ t → from_lead t ≡ Some j → IsChars (b ∷ bs) r
      go None is e = none_leads e
      go (Some (tail low up more)) is e = at (there (begun (tail low up more)) e)
        where
          at : {bs : List ℕ} → (c : List ℕ) × IsTail (tail low up more) bs c × IsChars c r → IsChars (b ∷ bs) r
          at (c, a_tail d next w, h) = char (longer b d low up more is next w) h

  rest_rest : (n : ℕ) → Some (rest_left n) ≡ Some j → (c : List ℕ) × IsRest n bs c × IsChars c r
  rest_rest zero e = (bs, no_rest, there plain e)
  rest_rest (suc n) e = at (there (begun (tail 128 191 n)) e)
    where
      at : {bs : List ℕ} → (c : List ℕ) × IsTail (tail 128 191 n) bs c × IsChars c r → (c : List ℕ) × IsRest (suc n) bs c × IsChars c r
      at (c, a_tail d next w, h) = (c, rest d next w, h)

  pub rest_step : (i : Inside) (b : ℕ) → is_plain i && nat_eq b 34 ≡ false → inside i b ≡ Some j → Rest i (b ∷ bs) r
  unfolding inside
  rest_step plain b quote e =
      split (nat_lt b 32) e (λ _ e. none_leads e)
      (λ control e. split (nat_eq b 92) e
      (λ is e. subst (λ b. IsChars (b ∷ bs) r) (sym (same_nat b 92 is)) (there slash e))
      (λ back e. split (nat_lt b 128) e (λ low e. ascii_rest b quote control back low e) (λ _ e. longer_rest b e)))
  rest_step slash b quote e =
      split (is_letter b) e
      (λ is e. char (letter b is) (there plain e))
      (λ _ e. split (nat_eq b 117) e (λ is e. subst (λ b. IsChars (92 ∷ b ∷ bs) r) (sym (same_nat b 117 is)) (there first e)) (λ _ e. none_leads e))
  rest_step first b quote e = with_hex b _ e (first_rest b)
  rest_step second b quote e = with_hex b _ e (second_rest b)
  rest_step (digits n) b quote e = with_hex b _ e (digits_rest n b)
  rest_step (high n) b quote e = with_hex b _ e (high_rest n b)
  rest_step low_slash b quote e =
      split (nat_eq b 92) e
      (λ is e. let w = there low_u e in (w.0, w.1, ap₂ (λ b bs. b ∷ bs) (same_nat b 92 is) w.2, w.3, w.4))
      (λ _ e. none_leads e)
  rest_step low_u b quote e =
      split (nat_eq b 117) e
      (λ is e. let w = there low_first e in (bs, w.0, ap (λ b. b ∷ bs) (same_nat b 117 is), w.1, w.2))
      (λ _ e. none_leads e)
  rest_step low_first b quote e = with_hex b _ e (λ v is e. split (nat_eq v 13) e
      (λ d e. let w = there low_second e in (w.0, record { e = b; c = bs; bytes = refl; is = is ∙ ap Some (same_nat v 13 d); rest = w.1 }, w.2))
      (λ _ e. none_leads e))
  rest_step low_second b quote e = with_hex b _ e (λ v is e. split (nat_lt 11 v) e
      (λ up e. let w = there (digits 1) e in (w.0, record { f = b; v = v; c = bs; bytes = refl; is = is; high = up; rest = w.1 }, w.2))
      (λ _ e. none_leads e))
  rest_step (begun (tail low up more)) b quote e =
      split (is_next (tail low up more) b) e
      (λ is e. let w = rest_rest more e in (w.0, a_tail b is w.1, w.2))
      (λ _ e. none_leads e)
