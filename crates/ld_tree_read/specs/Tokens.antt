-- Parts of tokens, and the bytes after them.
use Rattle.std.specs.Prelude.{◌≡◌, ℕ, ◌+◌, ◌*◌, List, ◌∷◌, Some}
use Rattle.ld_tree.specs.Reading.{hex, hex4}

-- two hexadecimal digits
pub data IsTwo : List ℕ → ℕ → List ℕ → Type 0 where
  two : (a b u v : ℕ) {r : List ℕ} → hex a ≡ Some u → hex b ≡ Some v → IsTwo (a ∷ b ∷ r) (16 * u + v) r

-- 4HEXDIG (section 7)
pub data IsUnit : List ℕ → ℕ → List ℕ → Type 0 where
  unit : (a b c d u : ℕ) {r : List ℕ} → hex4 a b c d ≡ Some u → IsUnit (a ∷ b ∷ c ∷ d ∷ r) u r
