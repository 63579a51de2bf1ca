-- Digits, powers of ten and exact values.
use Rattle.std.proofs.Common.{◌≡◌, ◌∙◌, refl, sym, ap, subst, ℕ, zero, suc, ◌+◌, ◌-◌, ◌*◌, ◌^◌, ◌<◌, ◌≤◌, List, [], ◌∷◌, ◌++◌, Option, Some, None, ◌/◌, ◌%◌, Bool, true, false, ◌&&◌, nat_lt, arith}
use Rattle.std.proofs.Math.Nat.{pow-suc, pow-le-pow_right, one-le-pow, mul-mod_left, mul-div_cancel, div-add-mod', eq_of_mul-eq-mul_right, mul-le-mul_left, mul_assoc, mul_comm, zero-mul}
use Rattle.std.proofs.lemmas.Nat.{pow-add}
use Rattle.std.proofs.lemmas.Bool.{ltb-true}
use Rattle.ld_tree_read.specs.Digits.{Stands, IsHeld}
use Rattle.ld_tree.specs.Numbers.{is_digit, value_after, value_of}

pub both : (a b : Bool) → a && b ≡ true → (a ≡ true) × (b ≡ true)
both true true h = (refl, refl)
both true false h = cc
both false b h = cc

pub all_so : (a b : Bool) → a ≡ true → b ≡ true → a && b ≡ true
all_so a b h w = rw (h, w) refl

pub value_snoc : (v : ℕ) (ds : List ℕ) (b : ℕ) → value_after v (ds ++ b ∷ []) ≡ 10 * value_after v ds + (b - 48)
value_snoc v [] b = refl
value_snoc v (d ∷ ds) b = value_snoc (10 * v + (d - 48)) ds b

pub times_ten : (v k : ℕ) → v * 10 ^ (k + 1) ≡ 10 * (v * 10 ^ k)
times_ten v k =
    let e : k + 1 ≡ suc k = omega arith in
    ap (λ n. v * 10 ^ n) e ∙ ap (λ n. v * n) (pow-suc 10 k) ∙ sym (mul_assoc v (10 ^ k) 10) ∙ mul_comm (v * 10 ^ k) 10

pub grows : (v : ℕ) {k n : ℕ} → k ≤ n → v * 10 ^ k ≤ v * 10 ^ n
grows v le = mul-le-mul_left v (pow-le-pow_right (omega arith) le)

pub at_least : (v k : ℕ) → v ≤ v * 10 ^ k
at_least v k = let h = grows v {k = 0} {n = k} (omega arith) in omega (arith, h)

pub over : (s v k n : ℕ) → s ≡ v * 10 ^ k → k < n → (s * 10 < 2 ^ 64 → ⊥) → v * 10 ^ n < 2 ^ 64 → ⊥
over s v k n e lt bad small =
    let h : v * 10 ^ (k + 1) ≤ v * 10 ^ n = grows v (omega arith) in
    let t = times_ten v k in
    bad (omega (arith, h, t, e, small))

-- one digit more
module _ {s : Option ℕ} {z : ℕ} {ds : List ℕ} (h : Stands s z ds) where
  abbrev value_next : (d : ℕ) → value_of (ds ++ (d + 48) ∷ []) ≡ 10 * (h.top * 10 ^ z) + d
  value_next d = let e = value_snoc 0 ds (d + 48) in let w = h.value in omega (arith, e, w)

  pub zero_more : ((h.top ≡ 0) → ⊥) → Stands s (z + 1) (ds ++ 48 ∷ [])
  zero_more some = record {
    top = h.top;
    held = h.held;
    value = let e = value_next 0 in let t = times_ten h.top z in omega (arith, e, t);
    ends = h.ends;
    no_zeros = λ e. absurd (some e);
  }

  pub zero_first : h.top ≡ 0 → Stands s z (ds ++ 48 ∷ [])
  zero_first none = record {
    top = h.top;
    held = h.held;
    value =
        let e = value_next 0 in
        let n : h.top * 10 ^ z ≡ 0 = ap (λ t. t * 10 ^ z) none ∙ zero-mul (10 ^ z) in
        omega (arith, e, n);
    ends = h.ends;
    no_zeros = h.no_zeros;
  }

  pub digit_more : (s' : Option ℕ) (d : ℕ) → 0 < d → d < 10 → IsHeld s' (h.top * 10 ^ (z + 1) + d) → Stands s' 0 (ds ++ (d + 48) ∷ [])
  digit_more s' d low high held = record {
    top = h.top * 10 ^ (z + 1) + d;
    held = held;
    value = let e = value_next d in let t = times_ten h.top z in omega (arith, e, t);
    ends = λ q e. let t = times_ten h.top z in omega (arith, t, e, low, high);
    no_zeros = λ e. refl;
  }

  pub held_more : (d : ℕ) → 2 ^ 64 ≤ h.top → 2 ^ 64 ≤ h.top * 10 ^ (z + 1) + d
  held_more d le = let g = at_least h.top (z + 1) in omega (arith, g, le)

pub held_zero : {s : Option ℕ} {n : ℕ} → s ≡ Some 0 → IsHeld s n → n ≡ 0
held_zero {n = n} e h = sym (subst (λ s. IsHeld s n) e h)

pub held_some : {s : Option ℕ} {n : ℕ} (v : ℕ) → s ≡ Some v → IsHeld s n → v ≡ n
held_some {n = n} v e h = subst (λ s. IsHeld s n) e h

pub held_none : {s : Option ℕ} {n : ℕ} → s ≡ None → IsHeld s n → 2 ^ 64 ≤ n
held_none {n = n} e h = subst (λ s. IsHeld s n) e h

pub digit_back : (b : ℕ) → is_digit b ≡ true → b - 48 + 48 ≡ b
digit_back b h = let low = ltb-true 47 b (both (nat_lt 47 b) (nat_lt b 58) h).0 in omega (arith, low)

pub ten_pos : (k : ℕ) → zero < 10 ^ k
ten_pos k = one-le-pow k 10 (omega arith)

-- what is left of an exact value, with some zeros behind its significant digits
module _ (m up down : ℕ) where
  pub divides : down ≤ up → m * 10 ^ up ≡ m * 10 ^ (up - down) * 10 ^ down
  divides le =
      let e : up ≡ (up - down) + down = omega (arith, le) in
      ap (λ n. m * 10 ^ n) e ∙ ap (λ n. m * n) (pow-add 10 (up - down) down) ∙ sym (mul_assoc m (10 ^ (up - down)) (10 ^ down))

  pub no_rest : down ≤ up → m * 10 ^ up % 10 ^ down ≡ 0
  no_rest le = ap (λ n. n % 10 ^ down) (divides le) ∙ mul-mod_left (m * 10 ^ (up - down)) (10 ^ down)

  pub quotient : down ≤ up → m * 10 ^ up / 10 ^ down ≡ m * 10 ^ (up - down)
  quotient le = ap (λ n. n / 10 ^ down) (divides le) ∙ mul-div_cancel (m * 10 ^ (up - down)) (ten_pos down)

  module _ (below : up < down) (ends : (q : ℕ) → m ≡ 10 * q → ⊥) where
    -- where the power below is k times that above, k > 1
    spread : 10 ^ down ≡ 10 ^ (down - up - 1) * 10 * 10 ^ up
    spread =
        let e : down ≡ (down - up - 1) + 1 + up = omega (arith, below) in
        ap (λ n. 10 ^ n) e ∙ pow-add 10 ((down - up - 1) + 1) up ∙ ap (λ n. n * 10 ^ up) (pow-add 10 (down - up - 1) 1)

    -- what is a multiple of the power below gives a multiple of ten
    multiple : (q : ℕ) → m * 10 ^ up ≡ q * 10 ^ down → m ≡ 10 * (q * 10 ^ (down - up - 1))
    multiple q e =
        let d = 10 ^ (down - up - 1) in
        let same : m ≡ q * (d * 10) = eq_of_mul-eq-mul_right (10 ^ up) (ten_pos up) m (q * (d * 10)) (e ∙ ap (λ n. q * n) spread ∙ sym (mul_assoc q (d * 10) (10 ^ up))) in
        omega (arith, same)

    pub some_rest : m * 10 ^ up % 10 ^ down ≡ 0 → ⊥
    some_rest e =
        let q = m * 10 ^ up / 10 ^ down in
        let whole = div-add-mod' (m * 10 ^ up) (10 ^ down) in
        ends (q * 10 ^ (down - up - 1)) (multiple q (sym whole ∙ ap (λ r. q * 10 ^ down + r) e ∙ omega arith))

    -- 11/10 has one place
    pub eleven : m * 10 ^ up * 10 ≡ 11 * 10 ^ down → (m ≡ 11) × (down ≡ up + 1)
    eleven e = go (down - up - 1) refl
      where
        go : (d : ℕ) → down - up - 1 ≡ d → (m ≡ 11) × (down ≡ up + 1)
        go d is =
            let side : m * 10 ^ up ≡ 11 * 10 ^ d * 10 ^ up =
            let s = spread in
            let w : 10 ^ (down - up - 1) ≡ 10 ^ d = ap (λ n. 10 ^ n) is in
            let v : 10 ^ (down - up - 1) * 10 * 10 ^ up ≡ 10 ^ d * 10 * 10 ^ up = ap (λ n. n * 10 * 10 ^ up) w in
            omega (arith, e, s, v)
            in
            let same : m ≡ 11 * 10 ^ d = eq_of_mul-eq-mul_right (10 ^ up) (ten_pos up) m (11 * 10 ^ d) side in
            at d is same
          where
            at : (d : ℕ) → down - up - 1 ≡ d → m ≡ 11 * 10 ^ d → (m ≡ 11) × (down ≡ up + 1)
            at zero is same = (same, omega (arith, is, below))
            at (suc d) is same = absurd (ends (11 * 10 ^ d) (let p = pow-suc 10 d in omega (arith, same, ap (λ n. 11 * n) p)))

  pub eleven_is : m ≡ 11 → down ≡ up + 1 → m * 10 ^ up * 10 ≡ 11 * 10 ^ down
  eleven_is is e =
      let p = times_ten 11 up in
      let w = ap (λ n. 11 * 10 ^ n) e in
      let v = ap (λ n. n * 10 ^ up) is in
      omega (arith, p, w, v)
