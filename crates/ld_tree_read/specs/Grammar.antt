-- JSON texts (RFC 8259) as rules: what stands at the front of some bytes, and the bytes after it. Numbers stand for nothing, and depth has no bound.
use Rattle.std.specs.Prelude.{◌≡◌, ℕ, suc, ◌==◌, nat_lt, true, false, not, ◌&&◌, ◌||◌, List, [], ◌∷◌, Some}
use Rattle.ld_tree.specs.Numbers.{is_digit}
use Rattle.ld_tree.specs.Reading.{past_space, hex4, is_high_half, is_low_half}
use Rattle.ld_tree_read.specs.State.{is_letter, lead, tail, is_next}

-- so many bytes of a character (RFC 3629, section 4)
pub data IsRest : ℕ → List ℕ → List ℕ → Type 0 where
  no_rest : {r : List ℕ} → IsRest 0 r r
  rest : {n : ℕ} (b : ℕ) {c r : List ℕ} → is_next (tail 128 191 n) b ≡ true → IsRest n c r → IsRest (suc n) (b ∷ c) r

-- char (section 7): in ASCII or longer, a backslash and a letter, \u and a code unit that is no half of a pair, or \u twice and both halves
pub data IsChar : List ℕ → List ℕ → Type 0 where
  ascii : (b : ℕ) {r : List ℕ} → nat_lt 31 b && nat_lt b 128 && not (b == 34 || b == 92) ≡ true → IsChar (b ∷ r) r
  longer : (b c low up more : ℕ) {d r : List ℕ} → lead b ≡ Some (tail low up more) → is_next (tail low up more) c ≡ true → IsRest more d r → IsChar (b ∷ c ∷ d) r
  letter : (e : ℕ) {r : List ℕ} → is_letter e ≡ true → IsChar (92 ∷ e ∷ r) r
  unit : (a b c d u : ℕ) {r : List ℕ} → hex4 a b c d ≡ Some u → is_high_half u || is_low_half u ≡ false → IsChar (92 ∷ 117 ∷ a ∷ b ∷ c ∷ d ∷ r) r
  pair : (a b c d e f g h u v : ℕ) {r : List ℕ} → hex4 a b c d ≡ Some u → hex4 e f g h ≡ Some v → is_high_half u && is_low_half v ≡ true → IsChar (92 ∷ 117 ∷ a ∷ b ∷ c ∷ d ∷ 92 ∷ 117 ∷ e ∷ f ∷ g ∷ h ∷ r) r

-- *char quotation-mark
pub data IsChars : List ℕ → List ℕ → Type 0 where
  closing : {r : List ℕ} → IsChars (34 ∷ r) r
  char : {b c r : List ℕ} → IsChar b c → IsChars c r → IsChars b r

-- 1*DIGIT (section 6)
pub data IsDigits : List ℕ → List ℕ → Type 0 where
  last_digit : (d : ℕ) {r : List ℕ} → is_digit d ≡ true → IsDigits (d ∷ r) r
  digit : (d : ℕ) {c r : List ℕ} → is_digit d ≡ true → IsDigits c r → IsDigits (d ∷ c) r

-- int: 0, or digits that don't begin with it
pub data IsInt : List ℕ → List ℕ → Type 0 where
  zero_int : {r : List ℕ} → IsInt (48 ∷ r) r
  one_int : (d : ℕ) {r : List ℕ} → is_digit d ≡ true → d == 48 ≡ false → IsInt (d ∷ r) r
  int : (d : ℕ) {c r : List ℕ} → is_digit d ≡ true → d == 48 ≡ false → IsDigits c r → IsInt (d ∷ c) r

-- [ frac ]
pub data IsFrac : List ℕ → List ℕ → Type 0 where
  no_frac : {r : List ℕ} → IsFrac r r
  frac : {c r : List ℕ} → IsDigits c r → IsFrac (46 ∷ c) r

-- [ exp ]
pub data IsExp : List ℕ → List ℕ → Type 0 where
  no_exp : {r : List ℕ} → IsExp r r
  exp : (e : ℕ) {c r : List ℕ} → e == 69 || e == 101 ≡ true → IsDigits c r → IsExp (e ∷ c) r
  signed_exp : (e s : ℕ) {c r : List ℕ} → e == 69 || e == 101 ≡ true → s == 43 || s == 45 ≡ true → IsDigits c r → IsExp (e ∷ s ∷ c) r

-- number: [ minus ] int [ frac ] [ exp ]
pub data IsNumber : List ℕ → List ℕ → Type 0 where
  natural : {b c d r : List ℕ} → IsInt b c → IsFrac c d → IsExp d r → IsNumber b r
  negative : {b c d r : List ℕ} → IsInt b c → IsFrac c d → IsExp d r → IsNumber (45 ∷ b) r

mutual
  -- value (section 3)
  pub data IsValue : List ℕ → List ℕ → Type 0 where
    a_null : {r : List ℕ} → IsValue (110 ∷ 117 ∷ 108 ∷ 108 ∷ r) r
    a_true : {r : List ℕ} → IsValue (116 ∷ 114 ∷ 117 ∷ 101 ∷ r) r
    a_false : {r : List ℕ} → IsValue (102 ∷ 97 ∷ 108 ∷ 115 ∷ 101 ∷ r) r
    a_number : {b r : List ℕ} → IsNumber b r → IsValue b r
    a_text : {b r : List ℕ} → IsChars b r → IsValue (34 ∷ b) r
    a_list : {b r : List ℕ} → IsItems b r → IsValue (91 ∷ b) r
    a_map : {b r : List ℕ} → IsMembers b r → IsValue (123 ∷ b) r

  -- array (section 5) after its bracket: the end, or a value and what follows it
  pub data IsItems : List ℕ → List ℕ → Type 0 where
    no_items : {b r : List ℕ} → past_space b ≡ 93 ∷ r → IsItems b r
    items : {b c r : List ℕ} → IsValue (past_space b) c → IsMoreItems c r → IsItems b r

  -- the end, or a comma, a value and what follows it
  pub data IsMoreItems : List ℕ → List ℕ → Type 0 where
    end_items : {b r : List ℕ} → past_space b ≡ 93 ∷ r → IsMoreItems b r
    more_items : {b c e r : List ℕ} → past_space b ≡ 44 ∷ c → IsValue (past_space c) e → IsMoreItems e r → IsMoreItems b r

  -- member (section 4): a name, a colon and a value
  pub data IsMember : List ℕ → List ℕ → Type 0 where
    member : {b c e r : List ℕ} → IsChars b c → past_space c ≡ 58 ∷ e → IsValue (past_space e) r → IsMember (34 ∷ b) r

  -- object (section 4) after its brace: the end, or a member and what follows it
  pub data IsMembers : List ℕ → List ℕ → Type 0 where
    no_members : {b r : List ℕ} → past_space b ≡ 125 ∷ r → IsMembers b r
    members : {b c r : List ℕ} → IsMember (past_space b) c → IsMoreMembers c r → IsMembers b r

  -- the end, or a comma, a member and what follows it
  pub data IsMoreMembers : List ℕ → List ℕ → Type 0 where
    end_members : {b r : List ℕ} → past_space b ≡ 125 ∷ r → IsMoreMembers b r
    more_members : {b c e r : List ℕ} → past_space b ≡ 44 ∷ c → IsMember (past_space c) e → IsMoreMembers e r → IsMoreMembers b r

-- JSON-text (section 2), after a byte order mark, if there is one
pub data IsText : List ℕ → Type 0 where
  text : {bytes r : List ℕ} → IsValue (past_space bytes) r → past_space r ≡ [] → IsText bytes
  marked : {bytes r : List ℕ} → IsValue (past_space bytes) r → past_space r ≡ [] → IsText (239 ∷ 187 ∷ 191 ∷ bytes)
