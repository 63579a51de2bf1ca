-- Inside a string.
use Rattle.std.proofs.Common.{◌≡◌, ◌∙◌, refl, sym, ap, subst, ℕ, zero, suc, ◌+◌, ◌-◌, ◌<◌, ◌≤◌, Bool, true, false, ◌&&◌, cond, nat_eq, nat_lt, List, [], ◌∷◌, drop, Option, Some, None, arith, inl, inr, eq-eqb, lt-ltb, le-ltb}
use Rattle.ld_tree_read.specs.declared.cursor.Cursor.{Cursor}
use Rattle.ld_tree_read.specs.State.{Level}
use Rattle.ld_tree_read.specs.declared.refusal.ReadRefusal.TheVariants as r
use Rattle.ld_tree_read.specs.Cursor.{left, ahead}
use Rattle.ld_tree_read.specs.Refusals.{refusal, plain_refusal, tail_of}
use Rattle.ld_tree.specs.Reading.{hex}
use Rattle.ld_tree_read.specs.State.{Inside, plain, slash, first, second, digits, high, low_slash, low_u, low_first, low_second, begun, Tail, tail, string, string_end, string_from, step, inside, is_plain, if_hex, is_letter, is_next, from_lead, digits_left, high_left, rest_left, tail_left, lead}
use Rattle.ld_tree_read.specs.Strings.{LeadsIn, Follows, NoByte, TakesHex}
use Rattle.ld_tree_read.proofs.Follows.{no_value, nowhere}
use Rattle.ld_tree_read.proofs.Tokens.{on, not_byte, stuck}
use Rattle.ld_tree_read.proofs.Scaled.{passed, chosen}
use Rattle.std.proofs.lemmas.Bool.{cases_lt, ltb-true}
use Rattle.ld_tree_read.proofs.Powers.{both}

pub in_step : (fs : List Level) (n : Bool) (i : Inside) (b : ℕ) → is_plain i && nat_eq b 34 ≡ false → step fs (string n i) b ≡ string_from fs n (inside i b)
unfolding step
in_step fs n i b e = passed (is_plain i && nat_eq b 34) (Some (fs, string_end n)) (string_from fs n (inside i b)) e

pub on_in : (c d : Cursor) (n : Bool) (fs : List Level) (i j : Inside) (b : ℕ) → left c ≡ b ∷ left d → d.at ≡ c.at + 1 → is_plain i && nat_eq b 34 ≡ false → inside i b ≡ Some j → ahead c fs (string n i) ≡ ahead d fs (string n j)
on_in c d n fs i j b e at p s = on c d fs fs (string n i) (string n j) b e at refl (in_step fs n i b p ∙ ap (string_from fs n) s)

pub stop_in : (at : ℕ) (n : Bool) (fs : List Level) (i : Inside) (bs : List ℕ) → tail_of (string n i) ≡ None → ((b : ℕ) (r : List ℕ) → bs ≡ b ∷ r → (is_plain i && nat_eq b 34 ≡ false) × (inside i b ≡ None)) → refusal at fs (string n i) bs ≡ Some (plain_refusal at bs)
stop_in at n fs i bs t h = nowhere fs (string n i) at bs t refl (λ b r e. let w = h b r e in (no_value at fs (string n i) b r refl, in_step fs n i b w.0 ∙ ap (string_from fs n) w.1))

pub quote_ends : (fs : List Level) (n : Bool) → step fs (string n plain) 34 ≡ Some (fs, string_end n)
unfolding step
quote_ends fs n = refl

inner : (i : Inside) (x : Bool) → is_plain i ≡ false → is_plain i && x ≡ false
inner i x e = ap (λ p. p && x) e

pub hop_in : (c d : Cursor) {P : ℕ → Type 0} (i j : Inside) → Follows c d P → is_plain i ≡ false → ((b : ℕ) → P b → inside i b ≡ Some j) → LeadsIn c i d j
hop_in c d i j w e s n fs = on_in c d n fs i j w.byte w.is w.at (inner i (nat_eq w.byte 34) e) (s w.byte w.holds)

pub next_left : (bs new r : List ℕ) (b : ℕ) → bs ≡ b ∷ r → new ≡ drop 1 bs → bs ≡ b ∷ new
next_left bs new r b e is = e ∙ ap (λ l. b ∷ l) (sym (is ∙ ap (drop 1) e))

-- hexadecimal digits
pub hex_low : (b v : ℕ) → hex b ≡ Some v → v < 16
hex_low b v e = go (nat_lt 47 b && nat_lt b 58) (nat_lt 64 b && nat_lt b 71) (nat_lt 96 b && nat_lt b 103) refl refl refl e
  where
    upto : (k n : ℕ) → nat_lt k b && nat_lt b n ≡ true → b < n
    upto k n h = ltb-true b n (both (nat_lt k b) (nat_lt b n) h).1

    go : (x y z : Bool) → nat_lt 47 b && nat_lt b 58 ≡ x → nat_lt 64 b && nat_lt b 71 ≡ y → nat_lt 96 b && nat_lt b 103 ≡ z → cond x (Some (b - 48)) (cond y (Some (b - 55)) (cond z (Some (b - 87)) None)) ≡ Some v → v < 16
    go true y z hx hy hz e = let is : b - 48 ≡ v = cc in let lt = upto 47 58 hx in omega (arith, is, lt)
    go false true z hx hy hz e = let is : b - 55 ≡ v = cc in let lt = upto 64 71 hy in omega (arith, is, lt)
    go false false true hx hy hz e = let is : b - 87 ≡ v = cc in let lt = upto 96 103 hz in omega (arith, is, lt)
    go false false false hx hy hz e = absurd (let w : None ≡ Some v = e in cc)

hex_none : (b low up : ℕ) (f : ℕ → Option Inside) → ((v : ℕ) → v < 16 → (low ≤ v → v ≤ up → ⊥) → f v ≡ None) → ((v : ℕ) → hex b ≡ Some v → low ≤ v → v ≤ up → ⊥) → if_hex (hex b) f ≡ None
hex_none b low up f g h = go (hex b) refl
  where
    go : (o : Option ℕ) → hex b ≡ o → if_hex o f ≡ None
    go None e = refl
    go (Some v) e = g v (hex_low b v e) (h v e)

pub takes_digits : (n : ℕ) → TakesHex (digits n) 0 15
unfolding inside
takes_digits n = record { inner = refl; between = λ n. refl; only = λ b. hex_none b 0 15 _ (λ v lt bad. absurd (bad (omega arith) (omega (arith, lt)))) }

pub takes_high : (n : ℕ) → TakesHex (high n) 0 15
unfolding inside
takes_high n = record { inner = refl; between = λ n. refl; only = λ b. hex_none b 0 15 _ (λ v lt bad. absurd (bad (omega arith) (omega (arith, lt)))) }

pub takes_first : TakesHex first 0 15
unfolding inside
takes_first = record { inner = refl; between = λ n. refl; only = λ b. hex_none b 0 15 _ (λ v lt bad. absurd (bad (omega arith) (omega (arith, lt)))) }

above : (v k : ℕ) → (0 ≤ v → v ≤ k → ⊥) → k < v
above v k bad = elim (cases_lt k v) [ inl lt ↦ lt | inr le ↦ absurd (bad (omega arith) le) ]

pub takes_second : TakesHex second 0 11
unfolding inside
takes_second = record { inner = refl; between = λ n. refl; only = λ b. hex_none b 0 11 _ (λ v lt bad. let up = above v 11 bad in rw (le-ltb v 8 (omega (arith, up)), le-ltb v 12 (omega (arith, up))) refl) }

pub takes_low_first : TakesHex low_first 13 13
unfolding inside
takes_low_first = record { inner = refl; between = λ n. refl; only = λ b. hex_none b 13 13 _ (λ v lt bad. rw (not_byte v 13 (λ e. bad (omega (arith, e)) (omega (arith, e)))) refl) }

pub takes_low_second : TakesHex low_second 12 15
unfolding inside
takes_low_second = record { inner = refl; between = λ n. refl; only = λ b. hex_none b 12 15 _ (λ v lt bad. elim (cases_lt v 12) [ inl below ↦ rw (le-ltb 11 v (omega (arith, below))) refl | inr up ↦ absurd (bad up (omega (arith, lt))) ]) }

module _ (b v : ℕ) (e : hex b ≡ Some v) where
  pub digits_step : (n : ℕ) → inside (digits n) b ≡ Some (digits_left n)
  unfolding inside
  digits_step n = ap (λ o. if_hex o (λ v. Some (digits_left n))) e

  pub high_step : (n : ℕ) → inside (high n) b ≡ Some (high_left n)
  unfolding inside
  high_step n = ap (λ o. if_hex o (λ v. Some (high_left n))) e

  pub first_plain : (v ≡ 13 → ⊥) → inside first b ≡ Some (digits 2)
  unfolding inside
  first_plain other = ap (λ o. if_hex o (λ v. Some (cond (nat_eq v 13) second (digits 2)))) e ∙ ap Some (passed (nat_eq v 13) second (digits 2) (not_byte v 13 other))

  pub first_d : v ≡ 13 → inside first b ≡ Some second
  unfolding inside
  first_d is = ap (λ o. if_hex o (λ v. Some (cond (nat_eq v 13) second (digits 2)))) e ∙ ap Some (chosen (nat_eq v 13) second (digits 2) (eq-eqb v 13 is))

  pub second_plain : v < 8 → inside second b ≡ Some (digits 1)
  unfolding inside
  second_plain lt = ap (λ o. if_hex o (λ v. cond (nat_lt v 8) (Some (digits 1)) (cond (nat_lt v 12) (Some (high 1)) None))) e ∙ rw (lt-ltb v 8 lt) refl

  pub second_high : 8 ≤ v → v ≤ 11 → inside second b ≡ Some (high 1)
  unfolding inside
  second_high le up = ap (λ o. if_hex o (λ v. cond (nat_lt v 8) (Some (digits 1)) (cond (nat_lt v 12) (Some (high 1)) None))) e ∙ rw (le-ltb v 8 le, lt-ltb v 12 (omega (arith, up))) refl

  pub low_first_step : 13 ≤ v → v ≤ 13 → inside low_first b ≡ Some low_second
  unfolding inside
  low_first_step low up = ap (λ o. if_hex o (λ v. cond (nat_eq v 13) (Some low_second) None)) e ∙ chosen (nat_eq v 13) (Some low_second) None (eq-eqb v 13 (omega (arith, low, up)))

  pub low_second_step : 12 ≤ v → inside low_second b ≡ Some (digits 1)
  unfolding inside
  low_second_step low = ap (λ o. if_hex o (λ v. cond (nat_lt 11 v) (Some (digits 1)) None)) e ∙ chosen (nat_lt 11 v) (Some (digits 1)) None (lt-ltb 11 v (omega (arith, low)))

-- escapes
pub low_slash_step : inside low_slash 92 ≡ Some low_u
unfolding inside
low_slash_step = refl

pub low_u_step : inside low_u 117 ≡ Some low_first
unfolding inside
low_u_step = refl

pub slash_u : inside slash 117 ≡ Some first
unfolding inside
slash_u = refl

pub slash_letter : (b : ℕ) → is_letter b ≡ true → inside slash b ≡ Some plain
unfolding inside
slash_letter b e = chosen (is_letter b) (Some plain) (cond (nat_eq b 117) (Some first) None) e

pub one_byte : (bs : List ℕ) (k : ℕ) (j : Inside) → ((r : List ℕ) → bs ≡ k ∷ r → ⊥) → (b : ℕ) (r : List ℕ) → bs ≡ b ∷ r → cond (nat_eq b k) (Some j) None ≡ None
one_byte bs k j other b r e = passed (nat_eq b k) (Some j) None (not_byte b k (λ is. other r (e ∙ ap (λ b. b ∷ r) is)))

pub low_slash_stops : (bs : List ℕ) → ((r : List ℕ) → bs ≡ 92 ∷ r → ⊥) → (b : ℕ) (r : List ℕ) → bs ≡ b ∷ r → (is_plain low_slash && nat_eq b 34 ≡ false) × (inside low_slash b ≡ None)
unfolding inside
low_slash_stops bs other b r e = (refl, one_byte bs 92 low_u other b r e)

pub low_u_stops : (bs : List ℕ) → ((r : List ℕ) → bs ≡ 117 ∷ r → ⊥) → (b : ℕ) (r : List ℕ) → bs ≡ b ∷ r → (is_plain low_u && nat_eq b 34 ≡ false) × (inside low_u b ≡ None)
unfolding inside
low_u_stops bs other b r e = (refl, one_byte bs 117 low_first other b r e)

pub slash_stops : (bs : List ℕ) → NoByte bs is_letter → ((r : List ℕ) → bs ≡ 117 ∷ r → ⊥) → (b : ℕ) (r : List ℕ) → bs ≡ b ∷ r → (is_plain slash && nat_eq b 34 ≡ false) × (inside slash b ≡ None)
unfolding inside
slash_stops bs none other b r e = (refl, passed (is_letter b) (Some plain) (cond (nat_eq b 117) (Some first) None) (none b r e) ∙ one_byte bs 117 first other b r e)

-- characters
module _ (b : ℕ) (no_slash : b ≡ 92 → ⊥) where
  pub plain_low : b < 32 → inside plain b ≡ None
  unfolding inside
  plain_low lt = rw (lt-ltb b 32 lt) refl

  pub plain_ascii : 32 ≤ b → b < 128 → inside plain b ≡ Some plain
  unfolding inside
  plain_ascii le lt = rw (le-ltb b 32 le, not_byte b 92 no_slash, lt-ltb b 128 lt) refl

  pub plain_lead : (t : Tail) → 128 ≤ b → lead b ≡ Some t → inside plain b ≡ Some (begun t)
  unfolding inside
  plain_lead t le e = rw (le-ltb b 32 (omega (arith, le)), not_byte b 92 no_slash, le-ltb b 128 le) (ap from_lead e)

  pub plain_no_lead : 128 ≤ b → lead b ≡ None → inside plain b ≡ None
  unfolding inside
  plain_no_lead le e = rw (le-ltb b 32 (omega (arith, le)), not_byte b 92 no_slash, le-ltb b 128 le) (ap from_lead e)

pub tail_step : (t : Tail) (b : ℕ) → is_next t b ≡ true → inside (begun t) b ≡ Some (tail_left t)
unfolding inside
tail_step t b e = chosen (is_next t b) (Some (tail_left t)) None e

pub tail_stops : (at : ℕ) (n : Bool) (fs : List Level) (t : Tail) (bs : List ℕ) → NoByte bs (is_next t) → refusal at fs (string n (begun t)) bs ≡ Some (r.NotUtf8 at)
unfolding refusal inside
tail_stops at n fs t [] h = refl
tail_stops at n fs t (b ∷ bs) h =
    let bad = h b bs refl in
    stuck at fs (string n (begun t)) b bs refl (in_step fs n (begun t) b refl ∙ ap (string_from fs n) (passed (is_next t b) (Some (tail_left t)) None bad)) ∙ ap Some (passed (is_next t b) (r.Syntax at) (r.NotUtf8 at) bad)

pub rest_some : (n : ℕ) → 0 < n → rest_left n ≡ begun (tail 128 191 (n - 1))
rest_some zero lt = absurd (omega arith)
rest_some (suc n) lt = ap (λ n. begun (tail 128 191 n)) (let e : n ≡ suc n - 1 = omega arith in e)

pub ends_inside : (at : ℕ) (n : Bool) (fs : List Level) (i : Inside) (bs : List ℕ) → tail_of (string n i) ≡ None → bs ≡ [] → refusal at fs (string n i) bs ≡ Some (plain_refusal at bs)
ends_inside at n fs i bs t e = stop_in at n fs i bs t (λ b r is. absurd (let w : [] ≡ b ∷ r = sym e ∙ is in cc))

pub byte_stops : (at : ℕ) (n : Bool) (fs : List Level) (bs : List ℕ) (b : ℕ) (r : List ℕ) → bs ≡ b ∷ r → (b ≡ 34 → ⊥) → inside plain b ≡ None → refusal at fs (string n plain) bs ≡ Some (plain_refusal at bs)
byte_stops at n fs bs b r e quote none =
    stop_in at n fs plain bs refl (λ c q is. let same : b ≡ c = let w : b ∷ r ≡ c ∷ q = sym e ∙ is in cc in (subst (λ c. nat_eq c 34 ≡ false) same (not_byte b 34 quote), subst (λ c. inside plain c ≡ None) same none))

pub plain_slash : inside plain 92 ≡ Some slash
unfolding inside
plain_slash = refl
