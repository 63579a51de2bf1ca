-- Characters by their bytes (RFC 3629, section 4), and UTF-8.
use Rattle.std.proofs.Common.{◌≡◌, ◌∙◌, refl, sym, ap, subst, ◌⊎◌, inl, inr, ℕ, zero, suc, ◌+◌, ◌-◌, ◌*◌, ◌/◌, ◌%◌, ◌<◌, ◌≤◌, Bool, true, false, not, cond, nat_eq, nat_lt, List, [], ◌∷◌, ◌++◌, Some, None, arith, lt-ltb, le-ltb, eq-eqb}
use Rattle.std.proofs.lemmas.Bool.{cases_lt, ltb-true}
use lib.Utf8.{encode, scalar_cases}
use Rattle.std.proofs.str.Laws as laws
use Rattle.std.specs.Char.{IsScalar}
use Rattle.std.proofs.str.Valid.{of_two, of_three, of_four}
use Rattle.ld_tree.specs.Reading.{is_unescaped}
use Rattle.ld_tree_read.specs.Grammar.{IsRest, no_rest, rest}
use Rattle.ld_tree_read.specs.State.{Tail, tail, lead, is_next}
use Rattle.ld_tree_read.specs.Strings.{IsTail, PassesChar}
use Rattle.ld_tree_read.proofs.Powers.{both}
use Rattle.ld_tree_read.proofs.Scaled.{same_nat}
use Rattle.ld_tree_read.proofs.Tokens.{not_byte}

-- a byte of a longer character stands for itself
pub high_unescaped : (b : ℕ) → 128 ≤ b → is_unescaped b ≡ true
high_unescaped b le = rw (lt-ltb 31 b (omega arith), not_byte b 34 (λ e. omega (arith, e, le)), not_byte b 92 (λ e. omega (arith, e, le))) refl

pub low_unescaped : (b : ℕ) → 32 ≤ b → (b ≡ 34 → ⊥) → (b ≡ 92 → ⊥) → is_unescaped b ≡ true
low_unescaped b le quote slash = rw (lt-ltb 31 b (omega arith), not_byte b 34 quote, not_byte b 92 slash) refl

-- a byte that goes on a character
pub next_bounds : (low up more b : ℕ) → is_next (tail low up more) b ≡ true → (low ≤ b) × (b ≤ up)
next_bounds low up more b h = let w = both (not (nat_lt b low)) (not (nat_lt up b)) h in (least b low w.0, least up b w.1)
  where
    least : (x y : ℕ) → not (nat_lt x y) ≡ true → y ≤ x
    least x y h = elim (cases_lt x y) [ inl lt ↦ absurd (bad (lt-ltb x y lt)) | inr le ↦ le ]
      where
        bad : nat_lt x y ≡ true → ⊥
        bad e = let w : not (nat_lt x y) ≡ false = ap not e in let k : true ≡ false = sym h ∙ w in cc

pub is_next_from : (low up more b : ℕ) → low ≤ b → b ≤ up → is_next (tail low up more) b ≡ true
is_next_from low up more b le le' = rw (le-ltb b low le, le-ltb up b le') refl

-- one byte more of the rest of a character
pub rest_next : (due b : ℕ) (d c r : List ℕ) → 0 < due → d ≡ b ∷ c → is_next (tail 128 191 0) b ≡ true → IsRest (due - 1) c r → IsRest due d r
rest_next zero b d c r lt e is w = absurd (omega arith)
rest_next (suc n) b d c r lt e is w =
    let same : suc n - 1 ≡ n = omega arith in
    subst (λ d. IsRest (suc n) d r) (sym e) (rest b is (subst (λ n. IsRest n c r) same w))

pub rest_zero : {d r : List ℕ} → IsRest 0 d r → d ≡ r
rest_zero no_rest = refl

pub rest_suc : {n : ℕ} {d r : List ℕ} → IsRest (suc n) d r → (b : ℕ) × (c : List ℕ) × (d ≡ b ∷ c) × (128 ≤ b) × (b ≤ 191) × IsRest n c r
rest_suc (rest {n = n} b {c = c} is w) = let k = next_bounds 128 191 n b is in (b, c, refl, k.0, k.1, w)

-- what a first byte leads to
pub some_tail : (s t : Tail) → Some s ≡ Some t → s ≡ t
some_tail s t e = cc

module _ (b : ℕ) (bytes r : List ℕ) where
  abbrev Decodes : Tail → Type 0
  Decodes (tail low up more) = IsTail low up more bytes r → PassesChar (b ∷ bytes) r

  two : 194 ≤ b → b < 224 → Decodes (tail 128 191 0)
  two le lt (y, d, e, is, w) =
      let k = next_bounds 128 191 0 y is in
      record {
        passed = b ∷ y ∷ [];
        is = ap (λ bs. b ∷ bs) (e ∙ ap (λ d. y ∷ d) (rest_zero w));
        utf8 = of_two (b ∷ y ∷ []) 0 (omega arith) (le, lt) (k.0, omega (arith, k.1));
        each = (high_unescaped b (omega (arith, le)), (high_unescaped y k.0, tt));
      }

  three : (low up : ℕ) → 224 ≤ b → b < 240 → 128 ≤ low → up ≤ 191 → ((y z : ℕ) → low ≤ y → y ≤ up → 128 ≤ z → z ≤ 191 → let c = (b - 224) * 4096 + (y - 128) * 64 + (z - 128) in (2048 ≤ c) × ((c < 55296) ⊎ (57344 ≤ c))) → Decodes (tail low up 1)
  three low up le lt from to code (y, d, e, is, w) =
      let k = next_bounds low up 0 y is in
      let (z, c, is_d, le_z, up_z, more) = rest_suc {n = 0} w in
      let value = code y z k.0 k.1 le_z up_z in
      record {
        passed = b ∷ y ∷ z ∷ [];
        is = ap (λ bs. b ∷ bs) (e ∙ ap (λ d. y ∷ d) (is_d ∙ ap (λ c. z ∷ c) (rest_zero more)));
        utf8 = of_three (b ∷ y ∷ z ∷ []) 0 (omega arith) (le, lt) (omega (arith, from, k.0), omega (arith, to, k.1)) (le_z, omega (arith, up_z)) value.0 value.1;
        each = (high_unescaped b (omega (arith, le)), (high_unescaped y (omega (arith, from, k.0)), (high_unescaped z le_z, tt)));
      }

  four : (low up : ℕ) → 240 ≤ b → 128 ≤ low → up ≤ 191 → ((y : ℕ) → low ≤ y → y ≤ up → let high = (b - 240) * 64 + (y - 128) in (16 ≤ high) × (high < 272)) → Decodes (tail low up 2)
  four low up le from to code (y, d, e, is, w) =
      let k = next_bounds low up 0 y is in
      let (z, c, is_d, le_z, up_z, more) = rest_suc {n = 1} w in
      let (x, c', is_c, le_x, up_x, more') = rest_suc {n = 0} more in
      record {
        passed = b ∷ y ∷ z ∷ x ∷ [];
        is = ap (λ bs. b ∷ bs) (e ∙ ap (λ d. y ∷ d) (is_d ∙ ap (λ c. z ∷ c) (is_c ∙ ap (λ c. x ∷ c) (rest_zero more'))));
        utf8 = of_four (b ∷ y ∷ z ∷ x ∷ []) 0 (omega arith) le (omega (arith, from, k.0), omega (arith, to, k.1)) (le_z, omega (arith, up_z)) (le_x, omega (arith, up_x)) (code y k.0 k.1);
        each = (high_unescaped b (omega (arith, le)), (high_unescaped y (omega (arith, from, k.0)), (high_unescaped z le_z, (high_unescaped x le_x, tt))));
      }

  by_lead : (t : Tail) → lead b ≡ Some t → Decodes t
  by_lead t h = go (nat_lt b 194) (nat_lt b 224) (nat_eq b 224) (nat_eq b 237) (nat_lt b 240) (nat_eq b 240) (nat_lt b 244) (nat_eq b 244) refl refl refl refl refl refl refl refl h
    where
      as_is : (s : Tail) → Some s ≡ Some t → Decodes s → Decodes t
      as_is s e d = subst Decodes (some_tail s t e) d

      from : (n : ℕ) → nat_lt b n ≡ false → n ≤ b
      from n e = elim (cases_lt b n) [ inl lt ↦ absurd (let w : true ≡ false = sym (lt-ltb b n lt) ∙ e in cc) | inr le ↦ le ]

      not_it : (n : ℕ) → nat_eq b n ≡ false → b ≡ n → ⊥
      not_it n e is = let w : true ≡ false = sym (eq-eqb b n is) ∙ e in cc

      go : (p q s u v w x y : Bool) → nat_lt b 194 ≡ p → nat_lt b 224 ≡ q → nat_eq b 224 ≡ s → nat_eq b 237 ≡ u → nat_lt b 240 ≡ v → nat_eq b 240 ≡ w → nat_lt b 244 ≡ x → nat_eq b 244 ≡ y
          → cond p None (cond q (Some (tail 128 191 0)) (cond s (Some (tail 160 191 1)) (cond u (Some (tail 128 159 1)) (cond v (Some (tail 128 191 1)) (cond w (Some (tail 144 191 2)) (cond x (Some (tail 128 191 2)) (cond y (Some (tail 128 143 2)) None))))))) ≡ Some t
          → Decodes t
      go true q s u v w x y e1 e2 e3 e4 e5 e6 e7 e8 h = absurd (let k : None ≡ Some t = h in cc)
      go false true s u v w x y e1 e2 e3 e4 e5 e6 e7 e8 h = as_is (tail 128 191 0) h (two (from 194 e1) (ltb-true b 224 e2))
      go false false true u v w x y e1 e2 e3 e4 e5 e6 e7 e8 h =
          let is = same_nat b 224 e3 in
          as_is (tail 160 191 1) h (three 160 191 (omega (arith, is)) (omega (arith, is)) (omega arith) (omega arith) (λ y z a b c d. (omega (arith, is, a, c), inl (omega (arith, is, b, d)))))
      go false false false true v w x y e1 e2 e3 e4 e5 e6 e7 e8 h =
          let is = same_nat b 237 e4 in
          as_is (tail 128 159 1) h (three 128 159 (omega (arith, is)) (omega (arith, is)) (omega arith) (omega arith) (λ y z a b c d. (omega (arith, is, a, c), inl (omega (arith, is, b, d)))))
      go false false false false true w x y e1 e2 e3 e4 e5 e6 e7 e8 h =
          let le = from 224 e2 in
          let lt = ltb-true b 240 e5 in
          let not_first = not_it 224 e3 in
          let not_other = not_it 237 e4 in
          as_is (tail 128 191 1) h (three 128 191 le lt (omega arith) (omega arith) (λ y z a b' c d.
          elim (cases_lt b 237) [
            | inl below ↦ elim (cases_lt 224 b) [ inl above ↦ (omega (arith, above, a, c), inl (omega (arith, below, b', d))) | inr eq ↦ absurd (not_first (omega (arith, eq, le))) ]
            | inr above ↦ elim (cases_lt 237 b) [ inl above' ↦ (omega (arith, above', a, c), inr (omega (arith, above', a, c))) | inr eq ↦ absurd (not_other (omega (arith, eq, above))) ]
          ]))
      go false false false false false true x y e1 e2 e3 e4 e5 e6 e7 e8 h =
          let is = same_nat b 240 e6 in
          as_is (tail 144 191 2) h (four 144 191 (omega (arith, is)) (omega arith) (omega arith) (λ y a c. (omega (arith, is, a), omega (arith, is, c))))
      go false false false false false false true y e1 e2 e3 e4 e5 e6 e7 e8 h =
          let le = from 240 e5 in
          let lt = ltb-true b 244 e7 in
          let not_first = not_it 240 e6 in
          as_is (tail 128 191 2) h (four 128 191 le (omega arith) (omega arith) (λ y a c.
          elim (cases_lt 240 b) [ inl above ↦ (omega (arith, above, a), omega (arith, lt, c)) | inr eq ↦ absurd (not_first (omega (arith, eq, le))) ]))
      go false false false false false false false true e1 e2 e3 e4 e5 e6 e7 e8 h =
          let is = same_nat b 244 e8 in
          as_is (tail 128 143 2) h (four 128 143 (omega (arith, is)) (omega arith) (omega arith) (λ y a c. (omega (arith, is, a), omega (arith, is, c))))
      go false false false false false false false false e1 e2 e3 e4 e5 e6 e7 e8 h = absurd (let k : None ≡ Some t = h in cc)

-- the bytes of a longer character are UTF-8
pub long_passes : (b low up more : ℕ) (bytes r : List ℕ) → lead b ≡ Some (tail low up more) → IsTail low up more bytes r → PassesChar (b ∷ bytes) r
long_passes b low up more bytes r h w = by_lead b bytes r (tail low up more) h w

-- a longer character at the front
pub record IsLong (bs r : List ℕ) : Type 0 where
  pub byte : ℕ
  pub low : ℕ
  pub up : ℕ
  pub more : ℕ
  pub bytes : List ℕ
  pub is : bs ≡ byte ∷ bytes
  pub high : 194 ≤ byte
  pub leads : lead byte ≡ Some (tail low up more)
  pub from : 128 ≤ low
  pub to : up ≤ 191
  pub within : IsTail low up more bytes r

lead_two : (x : ℕ) → 194 ≤ x → x < 224 → lead x ≡ Some (tail 128 191 0)
lead_two x le lt = rw (le-ltb x 194 le, lt-ltb x 224 lt) refl

lead_three : (x : ℕ) → 224 < x → x < 240 → (x ≡ 237 → ⊥) → lead x ≡ Some (tail 128 191 1)
lead_three x le lt other = rw (le-ltb x 194 (omega (arith, le)), le-ltb x 224 (omega (arith, le)), not_byte x 224 (λ e. omega (arith, e, le)), not_byte x 237 other, lt-ltb x 240 lt) refl

lead_four : (x : ℕ) → 240 < x → x < 244 → lead x ≡ Some (tail 128 191 2)
lead_four x le lt =
    rw (le-ltb x 194 (omega (arith, le)), le-ltb x 224 (omega (arith, le)), not_byte x 224 (λ e. omega (arith, e, le)), not_byte x 237 (λ e. omega (arith, e, le)), le-ltb x 240 (omega (arith, le)), not_byte x 240 (λ e. omega (arith, e, le)), lt-ltb x 244 lt) refl

next : (n y : ℕ) (c r : List ℕ) → 128 ≤ y → y ≤ 191 → IsRest n c r → IsRest (suc n) (y ∷ c) r
next n y c r le le' w = rest y (is_next_from 128 191 n y le le') w

-- what a character is written as
module _ (c : ℕ) (r : List ℕ) where
  in_two : 128 ≤ c → c < 2048 → IsLong ((192 + c / 64) ∷ (128 + c % 64) ∷ r) r
  in_two le lt = record {
    byte = 192 + c / 64;
    low = 128;
    up = 191;
    more = 0;
    bytes = (128 + c % 64) ∷ r;
    is = refl;
    high = omega arith;
    leads = lead_two (192 + c / 64) (omega arith) (omega arith);
    from = omega arith;
    to = omega arith;
    within = (128 + c % 64, r, refl, is_next_from 128 191 0 (128 + c % 64) (omega arith) (omega arith), no_rest);
  }

  of_three_bytes : (low up : ℕ) → 2048 ≤ c → c < 65536 → lead (224 + c / 4096) ≡ Some (tail low up 1) → 128 ≤ low → up ≤ 191 → low ≤ 128 + c / 64 % 64 → 128 + c / 64 % 64 ≤ up
      → IsLong ((224 + c / 4096) ∷ (128 + c / 64 % 64) ∷ (128 + c % 64) ∷ r) r
  of_three_bytes low up le lt leads from to a b = record {
    byte = 224 + c / 4096;
    low = low;
    up = up;
    more = 1;
    bytes = (128 + c / 64 % 64) ∷ (128 + c % 64) ∷ r;
    is = refl;
    high = omega arith;
    leads = leads;
    from = from;
    to = to;
    within = (128 + c / 64 % 64, (128 + c % 64) ∷ r, refl, is_next_from low up 0 (128 + c / 64 % 64) a b, next 0 (128 + c % 64) r r (omega arith) (omega arith) no_rest);
  }

  in_three : 2048 ≤ c → c < 65536 → (c < 55296) ⊎ (57344 ≤ c) → IsLong ((224 + c / 4096) ∷ (128 + c / 64 % 64) ∷ (128 + c % 64) ∷ r) r
  in_three le lt ok = elim (cases_lt c 4096) [
    | inl low ↦
        let is : 224 + c / 4096 ≡ 224 = omega arith in
        of_three_bytes 160 191 le lt (subst (λ x. lead x ≡ Some (tail 160 191 1)) (sym is) refl) (omega arith) (omega arith) (omega arith) (omega arith)
    | inr high ↦ elim (cases_lt c 53248) [
      | inl below ↦ of_three_bytes 128 191 le lt (lead_three (224 + c / 4096) (omega arith) (omega arith) (λ e. omega arith)) (omega arith) (omega arith) (omega arith) (omega arith)
      | inr from ↦ elim (cases_lt c 57344) [
        | inl within ↦
            let is : 224 + c / 4096 ≡ 237 = omega arith in
            let short : c < 55296 = elim ok [ inl lt ↦ lt | inr ge ↦ absurd (omega arith) ] in
            of_three_bytes 128 159 le lt (subst (λ x. lead x ≡ Some (tail 128 159 1)) (sym is) refl) (omega arith) (omega arith) (omega arith) (omega arith)
        | inr above ↦ of_three_bytes 128 191 le lt (lead_three (224 + c / 4096) (omega arith) (omega arith) (λ e. omega arith)) (omega arith) (omega arith) (omega arith) (omega arith)
      ]
    ]
  ]

  of_four_bytes : (low up : ℕ) → 65536 ≤ c → c < 1114112 → lead (240 + c / 262144) ≡ Some (tail low up 2) → 128 ≤ low → up ≤ 191 → low ≤ 128 + c / 4096 % 64 → 128 + c / 4096 % 64 ≤ up
      → IsLong ((240 + c / 262144) ∷ (128 + c / 4096 % 64) ∷ (128 + c / 64 % 64) ∷ (128 + c % 64) ∷ r) r
  of_four_bytes low up le lt leads from to a b = record {
    byte = 240 + c / 262144;
    low = low;
    up = up;
    more = 2;
    bytes = (128 + c / 4096 % 64) ∷ (128 + c / 64 % 64) ∷ (128 + c % 64) ∷ r;
    is = refl;
    high = omega arith;
    leads = leads;
    from = from;
    to = to;
    within = (
      128 + c / 4096 % 64,
      (128 + c / 64 % 64) ∷ (128 + c % 64) ∷ r,
      refl,
      is_next_from low up 0 (128 + c / 4096 % 64) a b,
      next 1 (128 + c / 64 % 64) ((128 + c % 64) ∷ r) r (omega arith) (omega arith) (next 0 (128 + c % 64) r r (omega arith) (omega arith) no_rest),
    );
  }

  in_four : 65536 ≤ c → c < 1114112 → IsLong ((240 + c / 262144) ∷ (128 + c / 4096 % 64) ∷ (128 + c / 64 % 64) ∷ (128 + c % 64) ∷ r) r
  in_four le lt = elim (cases_lt c 262144) [
    | inl low ↦
        let is : 240 + c / 262144 ≡ 240 = omega arith in
        of_four_bytes 144 191 le lt (subst (λ x. lead x ≡ Some (tail 144 191 2)) (sym is) refl) (omega arith) (omega arith) (omega arith) (omega arith)
    | inr high ↦ elim (cases_lt c 1048576) [
      | inl below ↦ of_four_bytes 128 191 le lt (lead_four (240 + c / 262144) (omega arith) (omega arith)) (omega arith) (omega arith) (omega arith) (omega arith)
      | inr above ↦
          let is : 240 + c / 262144 ≡ 244 = omega arith in
          of_four_bytes 128 143 le lt (subst (λ x. lead x ≡ Some (tail 128 143 2)) (sym is) refl) (omega arith) (omega arith) (omega arith) (omega arith)
    ]
  ]

  pub encode_long : IsScalar c → 128 ≤ c → IsLong (encode c ++ r) r
  encode_long ok le = elim (cases_lt c 2048) [
    | inl lt ↦ subst (λ bs. IsLong (bs ++ r) r) (sym (laws.two c le lt)) (in_two le lt)
    | inr ge ↦ elim (cases_lt c 65536) [
      | inl lt ↦ subst (λ bs. IsLong (bs ++ r) r) (sym (laws.three c ge lt)) (in_three ge lt (elim (scalar_cases c ok) [ inl below ↦ inl below | inr above ↦ inr above.0 ]))
      | inr ge' ↦ subst (λ bs. IsLong (bs ++ r) r) (sym (laws.four c ge')) (in_four ge' (elim (scalar_cases c ok) [ inl below ↦ omega arith | inr above ↦ above.1 ]))
    ]
  ]
