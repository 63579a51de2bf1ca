-- JSON texts (RFC 8259) as rules: what stands at the front of some bytes, and the bytes after it.
use Rattle.std.specs.Prelude.{◌≡◌, ℕ, suc, ◌+◌, ◌-◌, ◌*◌, Bool, true, false, not, ◌&&◌, ◌||◌, ◌==◌, nat_lt, cond, List, [], ◌∷◌, ◌++◌, Option, Some, None, Ok}
use Rattle.std.specs.Str.{IsUtf8}
use Rattle.std.specs.Char.{encode_utf8}
use Rattle.std.specs.BTreeMap.{insert_entry}
use Rattle.ld_tree.specs.Names.{Sorted, name_cmp}
use Rattle.ld_tree.specs.Numbers.{Token, number_at, exact, num_of}
use Rattle.ld_tree.specs.declared.tree.Num.{Num}
use Rattle.ld_tree.specs.declared.tree.Tree as t
use Rattle.ld_tree.specs.declared.tree.Tree.{Tree}

-- ws (section 2): a space, a tab, a line feed or a carriage return
abbrev pub is_white : ℕ → Bool
is_white b = b == 32 || b == 9 || b == 10 || b == 13

-- the bytes after the white space at their front
abbrev pub past_space : List ℕ → List ℕ
past_space [] = []
past_space (b ∷ bs) = cond (is_white b) (past_space bs) (b ∷ bs)

-- unescaped (section 7): no control character, quotation mark or backslash
abbrev pub is_unescaped : ℕ → Bool
is_unescaped b = nat_lt 31 b && not (b == 34 || b == 92)

-- what one letter after a backslash stands for (section 7)
abbrev pub escaped : ℕ → Option ℕ
escaped e = cond (e == 34) (Some 34) (cond (e == 92) (Some 92) (cond (e == 47) (Some 47) (cond (e == 98) (Some 8)
    (cond (e == 102) (Some 12) (cond (e == 110) (Some 10) (cond (e == 114) (Some 13) (cond (e == 116) (Some 9) None)))))))

-- HEXDIG, in either case
abbrev pub hex : ℕ → Option ℕ
hex b = cond (nat_lt 47 b && nat_lt b 58) (Some (b - 48)) (cond (nat_lt 64 b && nat_lt b 71) (Some (b - 55)) (cond (nat_lt 96 b && nat_lt b 103) (Some (b - 87)) None))

-- one more digit
abbrev pub more_hex : Option ℕ → Option ℕ → Option ℕ
more_hex (Some v) (Some d) = Some (16 * v + d)
more_hex _ _ = None

-- 4HEXDIG: a code unit of UTF-16
abbrev pub hex4 : ℕ → ℕ → ℕ → ℕ → Option ℕ
hex4 a b c d = more_hex (more_hex (more_hex (more_hex (Some 0) (hex a)) (hex b)) (hex c)) (hex d)

-- the first half of a surrogate pair, and the second
abbrev pub is_high_half : ℕ → Bool
is_high_half u = nat_lt 55295 u && nat_lt u 56320

abbrev pub is_low_half : ℕ → Bool
is_low_half u = nat_lt 56319 u && nat_lt u 57344

-- the character that a pair stands for
abbrev pub of_pair : ℕ → ℕ → ℕ
of_pair high low = 65536 + 1024 * (high - 55296) + (low - 56320)

-- char (section 7), with the UTF-8 of what it stands for: a byte that stands for itself, a backslash and a letter, \u and a
-- code unit that is no half of a pair, or \u twice and the two halves of one
pub data IsChar : List ℕ → List ℕ → List ℕ → Type 0 where
  unescaped : (b : ℕ) {r : List ℕ} → is_unescaped b ≡ true → IsChar (b ∷ r) (b ∷ []) r
  letter : (e c : ℕ) {r : List ℕ} → escaped e ≡ Some c → IsChar (92 ∷ e ∷ r) (c ∷ []) r
  unit : (a b c d u : ℕ) {r : List ℕ} → hex4 a b c d ≡ Some u → is_high_half u || is_low_half u ≡ false → IsChar (92 ∷ 117 ∷ a ∷ b ∷ c ∷ d ∷ r) (encode_utf8 u) r
  pair : (a b c d e f g h high low : ℕ) {r : List ℕ} → hex4 a b c d ≡ Some high → hex4 e f g h ≡ Some low → is_high_half high && is_low_half low ≡ true
      → IsChar (92 ∷ 117 ∷ a ∷ b ∷ c ∷ d ∷ 92 ∷ 117 ∷ e ∷ f ∷ g ∷ h ∷ r) (encode_utf8 (of_pair high low)) r

-- *char quotation-mark (section 7), with all that the characters stand for
pub data IsChars : List ℕ → List ℕ → List ℕ → Type 0 where
  closing : {r : List ℕ} → IsChars (34 ∷ r) [] r
  char : {b c r m text : List ℕ} → IsChar b m c → IsChars c text r → IsChars b (m ++ text) r

-- string (section 7) after its opening quotation mark, whose text is UTF-8 (section 8.1)
abbrev pub IsString : List ℕ → List ℕ → List ℕ → Type 0
IsString bytes text rest = IsChars bytes text rest × IsUtf8 text

-- number (section 6), where its exact value is read as this one
pub record IsNumber (bytes : List ℕ) (num : Num) (rest : List ℕ) : Type 0 where
  pub token : Token
  pub front : number_at bytes ≡ Some (token, rest)
  pub value : num_of (exact token) ≡ Ok num

-- the members by name; of those with one name the last (section 4)
abbrev pub put_all : {X : Type 0} → List (List ℕ × X) → List (List ℕ × X) → List (List ℕ × X)
put_all es [] = es
put_all es (m ∷ ms) = put_all (insert_entry name_cmp es m.0 m.1) ms

mutual
  -- value (section 3), of at most d levels of lists and maps
  pub data IsValue : ℕ → List ℕ → Tree → List ℕ → Type 0 where
    a_null : {d : ℕ} {r : List ℕ} → IsValue d (110 ∷ 117 ∷ 108 ∷ 108 ∷ r) t.Null r
    a_true : {d : ℕ} {r : List ℕ} → IsValue d (116 ∷ 114 ∷ 117 ∷ 101 ∷ r) (t.Bool true) r
    a_false : {d : ℕ} {r : List ℕ} → IsValue d (102 ∷ 97 ∷ 108 ∷ 115 ∷ 101 ∷ r) (t.Bool false) r
    a_number : {d : ℕ} {b r : List ℕ} {v : Num} → IsNumber b v r → IsValue d b (t.Num v) r
    a_text : {d : ℕ} {b text r : List ℕ} → IsString b text r → IsValue d (34 ∷ b) (t.Text text) r
    a_list : {d : ℕ} {b r : List ℕ} {ts : List Tree} → IsItems d b ts r → IsValue (suc d) (91 ∷ b) (t.List ts) r
    a_map : {d : ℕ} {b r : List ℕ} (ms : List (List ℕ × Tree)) (es : Sorted Tree) → IsMembers d b ms r → es.0 ≡ put_all [] ms → IsValue (suc d) (123 ∷ b) (t.Map es) r

  -- array (section 5) after its bracket: the end, or a value and what follows it
  pub data IsItems : ℕ → List ℕ → List Tree → List ℕ → Type 0 where
    no_items : {d : ℕ} {b r : List ℕ} → past_space b ≡ 93 ∷ r → IsItems d b [] r
    items : {d : ℕ} {b c r : List ℕ} {x : Tree} {ts : List Tree} → IsValue d (past_space b) x c → IsMoreItems d c ts r → IsItems d b (x ∷ ts) r

  -- the end, or a comma, a value and what follows it
  pub data IsMoreItems : ℕ → List ℕ → List Tree → List ℕ → Type 0 where
    end_items : {d : ℕ} {b r : List ℕ} → past_space b ≡ 93 ∷ r → IsMoreItems d b [] r
    more_items : {d : ℕ} {b c e r : List ℕ} {x : Tree} {ts : List Tree} → past_space b ≡ 44 ∷ c → IsValue d (past_space c) x e → IsMoreItems d e ts r → IsMoreItems d b (x ∷ ts) r

  -- member (section 4): a name, a colon and a value
  pub data IsMember : ℕ → List ℕ → List ℕ × Tree → List ℕ → Type 0 where
    member : {d : ℕ} {b c e r name : List ℕ} {x : Tree} → IsString b name c → past_space c ≡ 58 ∷ e → IsValue d (past_space e) x r → IsMember d (34 ∷ b) (name, x) r

  -- object (section 4) after its brace: the end, or a member and what follows it
  pub data IsMembers : ℕ → List ℕ → List (List ℕ × Tree) → List ℕ → Type 0 where
    no_members : {d : ℕ} {b r : List ℕ} → past_space b ≡ 125 ∷ r → IsMembers d b [] r
    members : {d : ℕ} {b c r : List ℕ} {m : List ℕ × Tree} {ms : List (List ℕ × Tree)} → IsMember d (past_space b) m c → IsMoreMembers d c ms r → IsMembers d b (m ∷ ms) r

  -- the end, or a comma, a member and what follows it
  pub data IsMoreMembers : ℕ → List ℕ → List (List ℕ × Tree) → List ℕ → Type 0 where
    end_members : {d : ℕ} {b r : List ℕ} → past_space b ≡ 125 ∷ r → IsMoreMembers d b [] r
    more_members : {d : ℕ} {b c e r : List ℕ} {m : List ℕ × Tree} {ms : List (List ℕ × Tree)} → past_space b ≡ 44 ∷ c → IsMember d (past_space c) m e → IsMoreMembers d e ms r → IsMoreMembers d b (m ∷ ms) r

-- the bytes after a byte order mark (section 8.1)
abbrev pub past_mark : List ℕ → List ℕ
past_mark (a ∷ b ∷ c ∷ bs) = cond (a == 239 && b == 187 && c == 191) bs (a ∷ b ∷ c ∷ bs)
past_mark bs = bs

-- JSON-text (section 2): after a byte order mark, if there is one, a value of at most 128 levels with white space round it
abbrev pub reads : List ℕ → Tree → Type 0
reads bytes tree = (rest : List ℕ) × IsValue 128 (past_space (past_mark bytes)) tree rest × (past_space rest ≡ [])
