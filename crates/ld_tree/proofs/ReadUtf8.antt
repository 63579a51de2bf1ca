-- What reads is UTF-8.
use Rattle.std.proofs.Common.{◌≡◌, ◌∙◌, refl, sym, ap, subst, suc, take, drop, Bool, true, false, cond, true≢false, ◌&&◌, ◌||◌, inl, inr, ℕ, ◌+◌, ◌-◌, ◌*◌, ◌/◌, ◌%◌, ◌<◌, ◌≤◌, List, [], ◌∷◌, ◌++◌, length, get_or, Option, Some, None, nat_lt, nat_eq, eqb-true, ltb-true, lt-ltb, le-ltb, arith, append_assoc, append-nil, length-append}
use Rattle.std.proofs.lemmas.Bool.{cases_lt}
use Rattle.std.specs.List.{prefix_len}
use Rattle.std.specs.Str.{IsUtf8, IsCharBoundary}
use Rattle.std.specs.Char.{IsScalar}
use Rattle.std.proofs.Math.Utf8.{encode}
use Rattle.std.proofs.Math.Seq.{take-append_seam, drop-append_seam}
use Rattle.std.proofs.lemmas.Str.{IsUtf8-append, IsUtf8-nil, IsUtf8-encode, IsUtf8-take, IsUtf8-drop, IsUtf8-past_char, encode_ascii}
use Rattle.ld_tree.specs.Reading.{is_white, past_space, past_mark, escaped, hex, more_hex, hex4, is_high_half, is_low_half, of_pair, unescaped, letter, unit, pair, IsChars, closing, char, IsString, IsNumber, IsValue, a_null, a_true, a_false, a_number, a_text, a_list, a_map, IsItems, no_items, items, IsMoreItems, end_items, more_items, IsMember, member, IsMembers, no_members, members, IsMoreMembers, end_members, more_members, reads}
use Rattle.ld_tree.specs.Numbers.{Token, Exp, is_digit, digits_at, int_at, frac_at, signed_digits, power_at, exp_at, ends_number, ◌>>=◌, unsigned_at, number_at}
use Rattle.ld_tree.specs.declared.tree.Num.{Num}
use Rattle.ld_tree.specs.declared.tree.Tree.{Tree}
use Rattle.ld_tree.proofs.Once.{both, all_so, neither}

pub ascii_first : (x : ℕ) (r : List ℕ) → x < 128 → IsUtf8 r → IsUtf8 (x ∷ r)
ascii_first x r lt h =
    let scalar : IsScalar x = rw (lt-ltb x 55296 (omega arith)) refl in
    let one : IsUtf8 (x ∷ []) = subst IsUtf8 (encode_ascii x lt) (IsUtf8-encode x scalar) in
    IsUtf8-append (x ∷ []) r one h

-- a character's first byte
lead : (c : ℕ) (q : List ℕ) → 128 ≤ get_or (encode c ++ q) 0 0 → 192 ≤ get_or (encode c ++ q) 0 0
unfolding encode
lead c q = go (nat_lt c 128) (nat_lt c 2048) (nat_lt c 65536) refl
  where
    go : (x y z : Bool) → nat_lt c 128 ≡ x
        → 128 ≤ get_or (cond x (c ∷ []) (cond y ((192 + c / 64) ∷ (128 + c % 64) ∷ []) (cond z ((224 + c / 4096) ∷ (128 + c / 64 % 64) ∷ (128 + c % 64) ∷ []) ((240 + c / 262144) ∷ (128 + c / 4096 % 64) ∷ (128 + c / 64 % 64) ∷ (128 + c % 64) ∷ []))) ++ q) 0 0
        → 192 ≤ get_or (cond x (c ∷ []) (cond y ((192 + c / 64) ∷ (128 + c % 64) ∷ []) (cond z ((224 + c / 4096) ∷ (128 + c / 64 % 64) ∷ (128 + c % 64) ∷ []) ((240 + c / 262144) ∷ (128 + c / 4096 % 64) ∷ (128 + c / 64 % 64) ∷ (128 + c % 64) ∷ []))) ++ q) 0 0
    go true y z e h = absurd (omega (arith, ltb-true c 128 e, h))
    go false true z e h = omega arith
    go false false true e h = omega arith
    go false false false e h = omega arith

at_seam : (p q : List ℕ) → get_or (p ++ q) (length p) 0 ≡ get_or q 0 0
at_seam [] q = refl
at_seam (x ∷ p) q = at_seam p q

-- a text with a character in it is one text before it and one after it
split : (p : List ℕ) (c : ℕ) (q : List ℕ) → IsUtf8 (p ++ (encode c ++ q)) → IsUtf8 p × IsUtf8 q
split p c q h =
    let all = p ++ (encode c ++ q) in
    let edge : IsCharBoundary all (length p) = (omega (arith, length-append p (encode c ++ q)), λ _ high. rw (at_seam p (encode c ++ q)) (lead c q (rw (at_seam p (encode c ++ q)) at high))) in
    let after : IsUtf8 (encode c ++ q) = subst IsUtf8 (drop-append_seam p (encode c ++ q)) (IsUtf8-drop all (length p) h edge) in
    (subst IsUtf8 (take-append_seam p (encode c ++ q)) (IsUtf8-take all (length p) h edge), IsUtf8-past_char (encode c ++ q) q c after refl)

-- escapes are ASCII, and stand for characters
pub escaped_low : (e c : ℕ) → escaped e ≡ Some c → (e < 128) × (c < 128)
escaped_low e c h = go (nat_eq e 34) (nat_eq e 92) (nat_eq e 47) (nat_eq e 98) (nat_eq e 102) (nat_eq e 110) (nat_eq e 114) (nat_eq e 116) refl refl refl refl refl refl refl refl h
  where
    is : (k x : ℕ) → nat_eq e k ≡ true → k < 128 → Some x ≡ Some c → x < 128 → (e < 128) × (c < 128)
    is k x h lt w lt' = let same : x ≡ c = cc in (omega (arith, eqb-true e k h), subst (λ x. x < 128) same lt')

    go : (a b i d f g j k : Bool) → nat_eq e 34 ≡ a → nat_eq e 92 ≡ b → nat_eq e 47 ≡ i → nat_eq e 98 ≡ d → nat_eq e 102 ≡ f → nat_eq e 110 ≡ g → nat_eq e 114 ≡ j → nat_eq e 116 ≡ k
        → cond a (Some 34) (cond b (Some 92) (cond i (Some 47) (cond d (Some 8) (cond f (Some 12) (cond g (Some 10) (cond j (Some 13) (cond k (Some 9) None))))))) ≡ Some c → (e < 128) × (c < 128)
    go true b i d f g j k h0 h1 h2 h3 h4 h5 h6 h7 w = is 34 34 h0 (omega arith) w (omega arith)
    go false true i d f g j k h0 h1 h2 h3 h4 h5 h6 h7 w = is 92 92 h1 (omega arith) w (omega arith)
    go false false true d f g j k h0 h1 h2 h3 h4 h5 h6 h7 w = is 47 47 h2 (omega arith) w (omega arith)
    go false false false true f g j k h0 h1 h2 h3 h4 h5 h6 h7 w = is 98 8 h3 (omega arith) w (omega arith)
    go false false false false true g j k h0 h1 h2 h3 h4 h5 h6 h7 w = is 102 12 h4 (omega arith) w (omega arith)
    go false false false false false true j k h0 h1 h2 h3 h4 h5 h6 h7 w = is 110 10 h5 (omega arith) w (omega arith)
    go false false false false false false true k h0 h1 h2 h3 h4 h5 h6 h7 w = is 114 13 h6 (omega arith) w (omega arith)
    go false false false false false false false true h0 h1 h2 h3 h4 h5 h6 h7 w = is 116 9 h7 (omega arith) w (omega arith)
    go false false false false false false false false h0 h1 h2 h3 h4 h5 h6 h7 w = cc

hex_low : (b d : ℕ) → hex b ≡ Some d → (b < 128) × (d < 16)
hex_low b d h = go (nat_lt 47 b && nat_lt b 58) (nat_lt 64 b && nat_lt b 71) (nat_lt 96 b && nat_lt b 103) refl refl refl h
  where
    within : (low high k : ℕ) → nat_lt low b && nat_lt b high ≡ true → high < 128 → high ≤ k + 16 → k ≤ low + 1 → Some (b - k) ≡ Some d → (b < 128) × (d < 16)
    within low high k p lt le le' w =
        let same : b - k ≡ d = cc in
        let parts = both (nat_lt low b) (nat_lt b high) p in
        let up = ltb-true b high parts.1 in
        let down = ltb-true low b parts.0 in
        (omega (arith, up), subst (λ d. d < 16) same (omega (arith, up, down)))

    go : (x y z : Bool) → nat_lt 47 b && nat_lt b 58 ≡ x → nat_lt 64 b && nat_lt b 71 ≡ y → nat_lt 96 b && nat_lt b 103 ≡ z
        → cond x (Some (b - 48)) (cond y (Some (b - 55)) (cond z (Some (b - 87)) None)) ≡ Some d → (b < 128) × (d < 16)
    go true y z p q r w = within 47 58 48 p (omega arith) (omega arith) (omega arith) w
    go false true z p q r w = within 64 71 55 q (omega arith) (omega arith) (omega arith) w
    go false false true p q r w = within 96 103 87 r (omega arith) (omega arith) (omega arith) w
    go false false false p q r w = cc

more_parts : (x y : Option ℕ) (u : ℕ) → more_hex x y ≡ Some u → (v : ℕ) × (d : ℕ) × (x ≡ Some v) × (y ≡ Some d) × (u ≡ 16 * v + d)
more_parts (Some v) (Some d) u h = (v, d, refl, refl, (let w : Some (16 * v + d) ≡ Some u = h in cc))
more_parts (Some v) None u h = cc
more_parts None y u h = cc

-- four digits are ASCII, and stand for a number of 16 bits
pub hex4_low : (a b c d u : ℕ) → hex4 a b c d ≡ Some u → (a < 128) × (b < 128) × (c < 128) × (d < 128) × (u < 65536)
hex4_low a b c d u h =
    let (v3, d3, e3, f3, q3) = more_parts _ (hex d) u h in
    let (v2, d2, e2, f2, q2) = more_parts _ (hex c) v3 e3 in
    let (v1, d1, e1, f1, q1) = more_parts _ (hex b) v2 e2 in
    let (v0, d0, e0, f0, q0) = more_parts (Some 0) (hex a) v1 e1 in
    let zero_is : 0 ≡ v0 = cc in
    let l0 = hex_low a d0 f0 in
    let l1 = hex_low b d1 f1 in
    let l2 = hex_low c d2 f2 in
    let l3 = hex_low d d3 f3 in
    (l0.0, l1.0, l2.0, l3.0, omega (arith, zero_is, q0, q1, q2, q3, l0.1, l1.1, l2.1, l3.1))

-- a code unit that is no half of a pair is a character, and so is what a pair stands for
pub unit_scalar : (u : ℕ) → u < 65536 → is_high_half u || is_low_half u ≡ false → IsScalar u
unit_scalar u lt h = elim (cases_lt u 55296) [
  | inl below ↦ rw (lt-ltb u 55296 below) refl
  | inr above ↦ elim (cases_lt u 57344) [
    | inl inside ↦ absurd (halves inside above)
    | inr past ↦ rw (le-ltb u 55296 above, lt-ltb 57343 u (omega arith), lt-ltb u 1114112 (omega arith)) refl
  ]
]
  where
    halves : u < 57344 → 55296 ≤ u → ⊥
    halves lt le = elim (cases_lt u 56320) [
      | inl low ↦ true≢false (sym (all_so (nat_lt 55295 u) (nat_lt u 56320) (lt-ltb 55295 u (omega arith)) (lt-ltb u 56320 low)) ∙ (neither (is_high_half u) (is_low_half u) h).0)
      | inr high ↦ true≢false (sym (all_so (nat_lt 56319 u) (nat_lt u 57344) (lt-ltb 56319 u (omega arith)) (lt-ltb u 57344 lt)) ∙ (neither (is_high_half u) (is_low_half u) h).1)
    ]

pub pair_scalar : (u v : ℕ) → is_high_half u && is_low_half v ≡ true → IsScalar (of_pair u v)
pair_scalar u v p =
    let halves = both (is_high_half u) (is_low_half v) p in
    let high = both (nat_lt 55295 u) (nat_lt u 56320) halves.0 in
    let low = both (nat_lt 56319 v) (nat_lt v 57344) halves.1 in
    let a = ltb-true 55295 u high.0 in
    let b = ltb-true u 56320 high.1 in
    let c = ltb-true 56319 v low.0 in
    let d = ltb-true v 57344 low.1 in
    rw (le-ltb (of_pair u v) 55296 (omega arith), lt-ltb 57343 (of_pair u v) (omega arith), lt-ltb (of_pair u v) 1114112 (omega (arith, a, b, c, d))) refl

-- the bytes p of a character have been seen before bs
chars_utf8 : {bs text r : List ℕ} (p : List ℕ) → IsChars bs text r → IsUtf8 (p ++ text) → IsUtf8 r → IsUtf8 (p ++ bs)
chars_utf8 {r = r} p closing h w = IsUtf8-append p (34 ∷ r) (subst IsUtf8 (append-nil p) h) (ascii_first 34 r (omega arith) w)
chars_utf8 p (char {c = c} {text = text} (unescaped b u) hs) h w =
    subst IsUtf8 (append_assoc p (b ∷ []) c) (chars_utf8 (p ++ b ∷ []) hs (subst IsUtf8 (sym (append_assoc p (b ∷ []) text)) h) w)
chars_utf8 p (char {c = c} {text = text} (letter e k u) hs) h w =
    let low = escaped_low e k u in
    let parts = split p k text (subst (λ l. IsUtf8 (p ++ (l ++ text))) (sym (encode_ascii k low.1)) h) in
    IsUtf8-append p (92 ∷ e ∷ c) parts.0 (ascii_first 92 (e ∷ c) (omega arith) (ascii_first e c low.0 (chars_utf8 [] hs parts.1 w)))
chars_utf8 p (char {c = rest} {text = text} (unit a b c d u h4 out) hs) h w =
    let (la, lb, lc, ld, lu) = hex4_low a b c d u h4 in
    let parts = split p u text h in
    IsUtf8-append p _ parts.0 (ascii_first 92 _ (omega arith) (ascii_first 117 _ (omega arith) (ascii_first a _ la (ascii_first b _ lb (ascii_first c _ lc (ascii_first d rest ld (chars_utf8 [] hs parts.1 w)))))))
chars_utf8 p (char {c = rest} {text = text} (pair a b c d e f g i u v h4 h4' halves) hs) h w =
    let (la, lb, lc, ld, lu) = hex4_low a b c d u h4 in
    let (le, lf, lg, li, lv) = hex4_low e f g i v h4' in
    let parts = split p (of_pair u v) text h in
    let second = ascii_first 92 _ (omega arith) (ascii_first 117 _ (omega arith) (ascii_first e _ le (ascii_first f _ lf (ascii_first g _ lg (ascii_first i rest li (chars_utf8 [] hs parts.1 w)))))) in
    IsUtf8-append p _ parts.0 (ascii_first 92 _ (omega arith) (ascii_first 117 _ (omega arith) (ascii_first a _ la (ascii_first b _ lb (ascii_first c _ lc (ascii_first d _ ld second))))))

string_utf8 : {b text r : List ℕ} → IsString b text r → IsUtf8 r → IsUtf8 b
string_utf8 (h, u) w = chars_utf8 [] h u w

-- what else stands between values is ASCII
white_low : (b : ℕ) → is_white b ≡ true → b < 128
white_low b h = go (nat_eq b 32) (nat_eq b 9) (nat_eq b 10) (nat_eq b 13) refl refl refl refl h
  where
    go : (w x y z : Bool) → nat_eq b 32 ≡ w → nat_eq b 9 ≡ x → nat_eq b 10 ≡ y → nat_eq b 13 ≡ z → w || x || y || z ≡ true → b < 128
    go true x y z p q r s h = omega (arith, eqb-true b 32 p)
    go false true y z p q r s h = omega (arith, eqb-true b 9 q)
    go false false true z p q r s h = omega (arith, eqb-true b 10 r)
    go false false false true p q r s h = omega (arith, eqb-true b 13 s)
    go false false false false p q r s h = cc

space_utf8 : (b : List ℕ) → IsUtf8 (past_space b) → IsUtf8 b
space_utf8 [] h = h
space_utf8 (x ∷ b) h = go (is_white x) refl (space_utf8 b) h
  where
    go : (w : Bool) → is_white x ≡ w → (IsUtf8 (past_space b) → IsUtf8 b) → IsUtf8 (cond w (past_space b) (x ∷ b)) → IsUtf8 (x ∷ b)
    go true e after h = ascii_first x b (white_low x e) (after h)
    go false e after h = h

-- white space, and then an ASCII byte
mark_utf8 : (b : List ℕ) (x : ℕ) (r : List ℕ) → x < 128 → past_space b ≡ x ∷ r → IsUtf8 r → IsUtf8 b
mark_utf8 b x r lt e h = space_utf8 b (subst IsUtf8 (sym e) (ascii_first x r lt h))

-- numbers are ASCII
low_digit : (x : ℕ) → is_digit x ≡ true → x < 128
low_digit x e = let high = ltb-true x 58 (both (nat_lt 47 x) (nat_lt x 58) e).1 in omega (arith, high)

run_utf8 : (b : List ℕ) → IsUtf8 (drop (prefix_len is_digit b) b) → IsUtf8 b
run_utf8 [] h = h
run_utf8 (x ∷ b) h = go (is_digit x) refl (run_utf8 b) h
  where
    go : (v : Bool) → is_digit x ≡ v → (IsUtf8 (drop (prefix_len is_digit b) b) → IsUtf8 b) → IsUtf8 (drop (cond v (1 + prefix_len is_digit b) 0) (x ∷ b)) → IsUtf8 (x ∷ b)
    go true e again h =
        let more : 1 + prefix_len is_digit b ≡ suc (prefix_len is_digit b) = omega arith in
        ascii_first x b (low_digit x e) (again (subst (λ n. IsUtf8 (drop n (x ∷ b))) more h))
    go false e again h = h

module _ {A : Type 0} where
  some_rest : (x y : A) (r s : List ℕ) → ◌≡◌ {A = Option (A × List ℕ)} (Some (x, r)) (Some (y, s)) → r ≡ s
  some_rest x y r s e = let pairs : ◌≡◌ {A = A × List ℕ} (x, r) (y, s) = cc in ap (λ (p : A × List ℕ). p.1) pairs

  none_some : (y : A) → ◌≡◌ {A = Option A} None (Some y) → ⊥
  none_some y e = cc

digits_utf8 : (b ds r : List ℕ) → digits_at b ≡ Some (ds, r) → IsUtf8 r → IsUtf8 b
digits_utf8 b ds r e h = go (nat_eq (prefix_len is_digit b) 0) e
  where
    go : (v : Bool) → cond {A = Option (List ℕ × List ℕ)} v None (Some (take (prefix_len is_digit b) b, drop (prefix_len is_digit b) b)) ≡ Some (ds, r) → IsUtf8 b
    go true e = absurd (none_some (ds, r) e)
    go false e = run_utf8 b (subst IsUtf8 (sym (some_rest _ ds _ r e)) h)

int_utf8 : (b ds r : List ℕ) → int_at b ≡ Some (ds, r) → IsUtf8 r → IsUtf8 b
int_utf8 [] ds r e h = absurd (none_some (ds, r) e)
int_utf8 (x ∷ b) ds r e h = go (nat_eq x 48) refl e
  where
    go : (v : Bool) → nat_eq x 48 ≡ v → cond {A = Option (List ℕ × List ℕ)} v (Some (48 ∷ [], b)) (digits_at (x ∷ b)) ≡ Some (ds, r) → IsUtf8 (x ∷ b)
    go true is e = let same = eqb-true x 48 is in ascii_first x b (omega (arith, same)) (subst IsUtf8 (sym (some_rest (48 ∷ []) ds b r e)) h)
    go false is e = digits_utf8 (x ∷ b) ds r e h

frac_utf8 : (b ds r : List ℕ) → frac_at b ≡ Some (ds, r) → IsUtf8 r → IsUtf8 b
frac_utf8 [] ds r e h = subst IsUtf8 (sym (some_rest [] ds [] r e)) h
frac_utf8 (x ∷ b) ds r e h = go (nat_eq x 46) refl e
  where
    go : (v : Bool) → nat_eq x 46 ≡ v → cond {A = Option (List ℕ × List ℕ)} v (digits_at b) (Some ([], x ∷ b)) ≡ Some (ds, r) → IsUtf8 (x ∷ b)
    go true is e = let same = eqb-true x 46 is in ascii_first x b (omega (arith, same)) (digits_utf8 b ds r e h)
    go false is e = subst IsUtf8 (sym (some_rest [] ds (x ∷ b) r e)) h

signed_utf8 : (lowers : Bool) (b r : List ℕ) (x : Exp) → signed_digits lowers (digits_at b) ≡ Some (x, r) → IsUtf8 r → IsUtf8 b
signed_utf8 lowers b r x e h = go (digits_at b) refl e
  where
    go : (o : Option (List ℕ × List ℕ)) → digits_at b ≡ o → signed_digits lowers o ≡ Some (x, r) → IsUtf8 b
    go (Some (ds, s)) is e = digits_utf8 b ds s is (subst IsUtf8 (sym (some_rest (lowers, ds) x s r e)) h)
    go None is e = absurd (none_some (x, r) e)

power_utf8 : (b r : List ℕ) (x : Exp) → power_at b ≡ Some (x, r) → IsUtf8 r → IsUtf8 b
power_utf8 [] r x e h = absurd (none_some (x, r) e)
power_utf8 (y ∷ b) r x e h = go (nat_eq y 45) (nat_eq y 43) refl refl e
  where
    go : (v w : Bool) → nat_eq y 45 ≡ v → nat_eq y 43 ≡ w
        → cond v (signed_digits true (digits_at b)) (cond w (signed_digits false (digits_at b)) (signed_digits false (digits_at (y ∷ b)))) ≡ Some (x, r) → IsUtf8 (y ∷ b)
    go true w is is' e = let same = eqb-true y 45 is in ascii_first y b (omega (arith, same)) (signed_utf8 true b r x e h)
    go false true is is' e = let same = eqb-true y 43 is' in ascii_first y b (omega (arith, same)) (signed_utf8 false b r x e h)
    go false false is is' e = signed_utf8 false (y ∷ b) r x e h

exp_utf8 : (b r : List ℕ) (x : Exp) → exp_at b ≡ Some (x, r) → IsUtf8 r → IsUtf8 b
exp_utf8 [] r x e h = subst IsUtf8 (sym (some_rest (false, []) x [] r e)) h
exp_utf8 (y ∷ b) r x e h = go (nat_eq y 69) (nat_eq y 101) refl refl e
  where
    go : (v w : Bool) → nat_eq y 69 ≡ v → nat_eq y 101 ≡ w → cond {A = Option (Exp × List ℕ)} (v || w) (power_at b) (Some ((false, []), y ∷ b)) ≡ Some (x, r) → IsUtf8 (y ∷ b)
    go true w is is' e = let same = eqb-true y 69 is in ascii_first y b (omega (arith, same)) (power_utf8 b r x e h)
    go false true is is' e = let same = eqb-true y 101 is' in ascii_first y b (omega (arith, same)) (power_utf8 b r x e h)
    go false false is is' e = subst IsUtf8 (sym (some_rest (false, []) x (y ∷ b) r e)) h

-- what one step after another gives, the first gave
bound : {A B : Type 0} (o : Option A) (f : A → Option B) (y : B) → ◌>>=◌ o f ≡ Some y → (x : A) × (o ≡ Some x) × (f x ≡ Some y)
bound (Some x) f y e = (x, refl, e)
bound None f y e = absurd (none_some y e)

unsigned_utf8 : (negative : Bool) (b r : List ℕ) (t : Token) → unsigned_at negative b ≡ Some (t, r) → IsUtf8 r → IsUtf8 b
unsigned_utf8 negative b r t e h =
    let int = bound (int_at b) _ (t, r) e in
    let frac = bound (frac_at int.0.1) _ (t, r) int.2 in
    let exp = bound (exp_at frac.0.1) _ (t, r) frac.2 in
    let end : exp.0.1 ≡ r = ended (ends_number exp.0.1) exp.0.1 _ exp.2 in
    int_utf8 b int.0.0 int.0.1 int.1 (frac_utf8 int.0.1 frac.0.0 frac.0.1 frac.1 (exp_utf8 frac.0.1 exp.0.1 exp.0.0 exp.1 (subst IsUtf8 (sym end) h)))
  where
    ended : (v : Bool) (s : List ℕ) (u : Token) → cond {A = Option (Token × List ℕ)} v (Some (u, s)) None ≡ Some (t, r) → s ≡ r
    ended true s u e = some_rest u t s r e
    ended false s u e = absurd (none_some (t, r) e)

number_at_utf8 : (b r : List ℕ) (t : Token) → number_at b ≡ Some (t, r) → IsUtf8 r → IsUtf8 b
unfolding number_at
number_at_utf8 [] r t e h = absurd (none_some (t, r) e)
number_at_utf8 (x ∷ b) r t e h = go (nat_eq x 45) refl e
  where
    go : (v : Bool) → nat_eq x 45 ≡ v → cond v (unsigned_at true b) (unsigned_at false (x ∷ b)) ≡ Some (t, r) → IsUtf8 (x ∷ b)
    go true same e = let is = eqb-true x 45 same in ascii_first x b (omega (arith, is)) (unsigned_utf8 true b r t e h)
    go false same e = unsigned_utf8 false (x ∷ b) r t e h

number_utf8 : {b r : List ℕ} {v : Num} → IsNumber b v r → IsUtf8 r → IsUtf8 b
number_utf8 {b} {r} h = number_at_utf8 b r h.token h.front

mutual
  value_utf8 : {d : ℕ} {b r : List ℕ} {x : Tree} → IsValue d b x r → IsUtf8 r → IsUtf8 b
  value_utf8 {r = r} a_null w = ascii_first 110 _ (omega arith) (ascii_first 117 _ (omega arith) (ascii_first 108 _ (omega arith) (ascii_first 108 r (omega arith) w)))
  value_utf8 {r = r} a_true w = ascii_first 116 _ (omega arith) (ascii_first 114 _ (omega arith) (ascii_first 117 _ (omega arith) (ascii_first 101 r (omega arith) w)))
  value_utf8 {r = r} a_false w = ascii_first 102 _ (omega arith) (ascii_first 97 _ (omega arith) (ascii_first 108 _ (omega arith) (ascii_first 115 _ (omega arith) (ascii_first 101 r (omega arith) w))))
  value_utf8 (a_number h) w = number_utf8 h w
  value_utf8 (a_text {b = b} h) w = ascii_first 34 b (omega arith) (string_utf8 h w)
  value_utf8 (a_list {b = b} h) w = ascii_first 91 b (omega arith) (items_utf8 h w)
  value_utf8 (a_map {b = b} ms es h is) w = ascii_first 123 b (omega arith) (members_utf8 h w)

  items_utf8 : {d : ℕ} {b r : List ℕ} {ts : List Tree} → IsItems d b ts r → IsUtf8 r → IsUtf8 b
  items_utf8 (no_items {b = b} {r = r} e) w = mark_utf8 b 93 r (omega arith) e w
  items_utf8 (items {b = b} v h) w = space_utf8 b (value_utf8 v (more_utf8 h w))

  more_utf8 : {d : ℕ} {b r : List ℕ} {ts : List Tree} → IsMoreItems d b ts r → IsUtf8 r → IsUtf8 b
  more_utf8 (end_items {b = b} {r = r} e) w = mark_utf8 b 93 r (omega arith) e w
  more_utf8 (more_items {b = b} {c = c} e v h) w = mark_utf8 b 44 c (omega arith) e (space_utf8 c (value_utf8 v (more_utf8 h w)))

  member_utf8 : {d : ℕ} {b r : List ℕ} {m : List ℕ × Tree} → IsMember d b m r → IsUtf8 r → IsUtf8 b
  member_utf8 (member {b = b} {c = c} {e = e} s is v) w = ascii_first 34 b (omega arith) (string_utf8 s (mark_utf8 c 58 e (omega arith) is (space_utf8 e (value_utf8 v w))))

  members_utf8 : {d : ℕ} {b r : List ℕ} {ms : List (List ℕ × Tree)} → IsMembers d b ms r → IsUtf8 r → IsUtf8 b
  members_utf8 (no_members {b = b} {r = r} e) w = mark_utf8 b 125 r (omega arith) e w
  members_utf8 (members {b = b} m h) w = space_utf8 b (member_utf8 m (mores_utf8 h w))

  mores_utf8 : {d : ℕ} {b r : List ℕ} {ms : List (List ℕ × Tree)} → IsMoreMembers d b ms r → IsUtf8 r → IsUtf8 b
  mores_utf8 (end_members {b = b} {r = r} e) w = mark_utf8 b 125 r (omega arith) e w
  mores_utf8 (more_members {b = b} {c = c} e m h) w = mark_utf8 b 44 c (omega arith) e (space_utf8 c (member_utf8 m (mores_utf8 h w)))

pub read_utf8 : (bytes : List ℕ) (x : Tree) → reads bytes x → IsUtf8 (past_mark bytes)
read_utf8 bytes x (r, h, e) = space_utf8 (past_mark bytes) (value_utf8 h (space_utf8 r (subst IsUtf8 (sym e) IsUtf8-nil)))

-- the byte order mark is a character
marked : (bytes : List ℕ) → IsUtf8 (past_mark bytes) → IsUtf8 bytes
unfolding encode
marked [] h = h
marked (a ∷ []) h = h
marked (a ∷ b ∷ []) h = h
marked (a ∷ b ∷ c ∷ bs) h = go (nat_eq a 239) (nat_eq b 187) (nat_eq c 191) refl refl refl h
  where
    go : (x y z : Bool) → nat_eq a 239 ≡ x → nat_eq b 187 ≡ y → nat_eq c 191 ≡ z → IsUtf8 (cond (x && y && z) bs (a ∷ b ∷ c ∷ bs)) → IsUtf8 (a ∷ b ∷ c ∷ bs)
    go true true true p q r h =
        rw (eqb-true a 239 p, eqb-true b 187 q, eqb-true c 191 r) (IsUtf8-append (239 ∷ 187 ∷ 191 ∷ []) bs (IsUtf8-encode 65279 refl) h)
    go true true false p q r h = h
    go true false z p q r h = h
    go false y z p q r h = h

pub read_utf8_whole : (bytes : List ℕ) (x : Tree) → reads bytes x → IsUtf8 bytes
read_utf8_whole bytes x h = marked bytes (read_utf8 bytes x h)
