-- Escapes of characters.
use Rattle.std.proofs.lemmas.Bool.{cases_lt}
use Rattle.std.proofs.Common.{◌≡◌, ◌∙◌, refl, sym, ap, ap₂, subst, ◌⊎◌, inl, inr, Bool, true, false, ◌&&◌, ◌||◌, ℕ, ◌+◌, ◌*◌, ◌<◌, ◌≤◌, List, ◌∷◌, Some, nat_lt, arith, lt-ltb, le-ltb}
use Rattle.std.specs.Option.{is_some}
use Rattle.std.specs.Char.{encode_utf8}
use Rattle.std.proofs.lemmas.Str.{encode_ascii}
use Rattle.ld_tree.specs.Reading.{hex, more_hex, hex4, escaped, is_high_half, is_low_half, of_pair, IsChar, letter}
use Rattle.ld_tree.specs.Reading as reading
use Rattle.ld_tree.proofs.ReadUtf8.{escaped_low}
use Rattle.ld_tree_read.specs.Tokens.{IsTwo, two, IsUnit, unit}

four_is : (a b c d u v w x : ℕ) → hex a ≡ Some u → hex b ≡ Some v → hex c ≡ Some w → hex d ≡ Some x → hex4 a b c d ≡ Some (16 * (16 * (16 * (16 * 0 + u) + v) + w) + x)
four_is a b c d u v w x ea eb ec ed = ap₂ (λ p q. more_hex (more_hex (more_hex (more_hex (Some 0) p) q) (hex c)) (hex d)) ea eb ∙ ap₂ (λ p q. more_hex (more_hex (more_hex (more_hex (Some 0) (Some u)) (Some v)) p) q) ec ed

-- two digits, and the two that are left of four
pub unit_of : (a b u v w : ℕ) (bytes cs r : List ℕ) → bytes ≡ a ∷ b ∷ cs → hex a ≡ Some u → hex b ≡ Some v → IsTwo cs w r → IsUnit bytes (4096 * u + 256 * v + w) r
unit_of a b u v w bytes cs r e ea eb t = go t e
  where
    go : {cs r : List ℕ} {w : ℕ} → IsTwo cs w r → bytes ≡ a ∷ b ∷ cs → IsUnit bytes (4096 * u + 256 * v + w) r
    go (two c d x y {r = r} ec ed) e =
        let is : 16 * (16 * (16 * (16 * 0 + u) + v) + x) + y ≡ 4096 * u + 256 * v + (16 * x + y) = omega arith in
        subst (λ bytes. IsUnit bytes (4096 * u + 256 * v + (16 * x + y)) r) (sym e) (subst (λ n. IsUnit (a ∷ b ∷ c ∷ d ∷ r) n r) is (unit a b c d (16 * (16 * (16 * (16 * 0 + u) + v) + x) + y) (four_is a b c d u v x y ea eb ec ed)))

-- a unit that is no half of a pair
pub no_half : (u : ℕ) → (u < 55296) → is_high_half u || is_low_half u ≡ false
no_half u lt = rw (le-ltb 55295 u (omega arith), le-ltb 56319 u (omega arith)) refl

pub no_half_above : (u : ℕ) → 57344 ≤ u → is_high_half u || is_low_half u ≡ false
no_half_above u le = rw (le-ltb u 56320 (omega arith), le-ltb u 57344 le) (no_both (nat_lt 55295 u) (nat_lt 56319 u))
  where
    no_both : (x y : Bool) → (x && false) || (y && false) ≡ false
    no_both true true = refl
    no_both true false = refl
    no_both false true = refl
    no_both false false = refl

pub halves : (u v : ℕ) → 55296 ≤ u → u < 56320 → 56320 ≤ v → v < 57344 → is_high_half u && is_low_half v ≡ true
halves u v a b c d = rw (lt-ltb 55295 u (omega arith), lt-ltb u 56320 b, lt-ltb 56319 v (omega arith), lt-ltb v 57344 d) refl

pub alone_found : (bs r : List ℕ) (u : ℕ) → IsUnit bs u r → is_high_half u || is_low_half u ≡ false → IsChar (92 ∷ 117 ∷ bs) (encode_utf8 u) r
alone_found bs r u (unit a b c d _ h) out = reading.unit a b c d u h out

pub pair_found : (bs more r : List ℕ) (u v : ℕ) → IsUnit bs u (92 ∷ 117 ∷ more) → IsUnit more v r → is_high_half u && is_low_half v ≡ true → IsChar (92 ∷ 117 ∷ bs) (encode_utf8 (of_pair u v)) r
pair_found bs more r u v (unit a b c d _ h) w p = go w
  where
    go : {more : List ℕ} → IsUnit more v r → IsChar (92 ∷ 117 ∷ a ∷ b ∷ c ∷ d ∷ 92 ∷ 117 ∷ more) (encode_utf8 (of_pair u v)) r
    go (unit e f g i _ k) = reading.pair a b c d e f g i u v h k p

pub letter_found : (e k : ℕ) (bs : List ℕ) → escaped e ≡ Some k → IsChar (92 ∷ e ∷ bs) (encode_utf8 k) bs
letter_found e k bs h = subst (λ m. IsChar (92 ∷ e ∷ bs) m bs) (sym (encode_ascii k (escaped_low e k h).1)) (letter e k h)

pub letter_is : (b k : ℕ) → escaped b ≡ Some k → is_some (escaped b) ≡ true
letter_is b k e = ap is_some e

-- one that begins with another digit than D, or with D and a digit below 8
pub no_half_d : (a b r : ℕ) → a < 16 → b < 16 → r < 256 → (a ≡ 13 → ⊥) ⊎ (b < 8) → is_high_half (4096 * a + 256 * b + r) || is_low_half (4096 * a + 256 * b + r) ≡ false
no_half_d a b r la lb lr which = elim (cases_lt a 13) [
  | inl below ↦ no_half (4096 * a + 256 * b + r) (omega (arith, below, lb, lr))
  | inr above ↦ elim (cases_lt 13 a) [
    | inl high ↦ no_half_above (4096 * a + 256 * b + r) (omega (arith, high))
    | inr eq ↦ elim which [
      | inl other ↦ absurd (other (omega (arith, eq, above)))
      | inr low ↦ no_half (4096 * a + 256 * b + r) (omega (arith, eq, low, lr))
    ]
  ]
]
