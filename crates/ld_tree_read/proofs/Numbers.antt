-- Digits and what they stand for.
use Rattle.std.proofs.Common.{◌≡◌, ◌∙◌, refl, sym, ap, inl, inr, ℕ, suc, ◌+◌, ◌-◌, ◌*◌, ◌/◌, ◌%◌, ◌^◌, ◌<◌, ◌≤◌, Bool, true, false, cond, nat_eq, List, [], ◌∷◌, ◌++◌, length, drop, get_or, Ok, Err, arith, drop-cons, append-nil, eq-eqb}
use Rattle.std.proofs.lemmas.Bool.{cases_lt}
use Rattle.ld_tree.specs.Numbers.{Token, value_after, value_of, exact, num_of, whole_num, is_whole, is_one_one, size}
use Rattle.ld_tree.specs.declared.number.NumFault.TheVariants.{Fraction}
use Rattle.ld_tree.specs.declared.tree.Num.TheVariants.{OneOne}
use Rattle.ld_tree_read.proofs.Powers.{no_rest, quotient}
use Rattle.ld_tree_read.proofs.Scaled.{chosen, same_nat}

value_grows : (v : ℕ) (ds : List ℕ) → v ≤ value_after v ds
value_grows v [] = omega arith
value_grows v (b ∷ ds) = omega (arith, value_grows (10 * v + (b - 48)) ds)

-- from the digit at i on, after others that stand for v
pub too_large : (v i : ℕ) (ds : List ℕ) → i < length ds → 2 ^ 64 ≤ 10 * v + (get_or ds i 0 - 48) → 2 ^ 64 ≤ value_after v (drop i ds)
too_large v i ds lt h = rw (drop-cons ds i 0) (omega (arith, value_grows (10 * v + (get_or ds i 0 - 48)) (drop (suc i) ds)))

-- at a product or a sum that 64 bits don't hold
pub over_product : (v d : ℕ) → (v * 10 < 2 ^ 64 → ⊥) → 2 ^ 64 ≤ 10 * v + d
over_product v d bad = elim (cases_lt (v * 10) (2 ^ 64)) [ inl lt ↦ absurd (bad lt) | inr le ↦ omega (arith, le) ]

pub over_sum : (v p d : ℕ) → p ≡ v * 10 → (p + d < 2 ^ 64 → ⊥) → 2 ^ 64 ≤ 10 * v + d
over_sum v p d e bad = elim (cases_lt (p + d) (2 ^ 64)) [ inl lt ↦ absurd (bad lt) | inr le ↦ omega (arith, le, e) ]

pub no_bytes : (bytes : List ℕ) → true ≡ nat_eq (length bytes) 0 → bytes ≡ []
no_bytes [] e = refl
no_bytes (b ∷ bytes) e = let none = same_nat (length (b ∷ bytes)) 0 (sym e) in absurd (omega (arith, none))

-- without fraction and exponent it is the whole number of its digits
pub plain_is : (t : Token) → t.fraction ≡ [] → t.exponent ≡ [] → num_of (exact t) ≡ whole_num t.negative (value_of t.whole)
plain_is t no_fraction no_exponent =
    let x = exact t in
    let digits : x.digits ≡ value_of t.whole = ap (λ f. value_of (t.whole ++ f)) no_fraction ∙ ap value_of (append-nil t.whole) in
    let up : x.up ≡ 0 = ap (λ e. cond t.lowers 0 (value_of e)) no_exponent ∙ either t.lowers in
    let down : x.down ≡ 0 = ap (λ e. length t.fraction + cond t.lowers (value_of e) 0) no_exponent ∙ ap (λ n. length t.fraction + n) (either t.lowers) ∙ ap (λ f. length f + 0) no_fraction in
    let above : x.digits * 10 ^ x.up ≡ value_of t.whole * 10 ^ 0 = ap (λ d. d * 10 ^ x.up) digits ∙ ap (λ n. value_of t.whole * 10 ^ n) up in
    let whole : x.digits * 10 ^ x.up % 10 ^ x.down ≡ 0 =
    ap (λ n. n % 10 ^ x.down) above ∙ ap (λ n. value_of t.whole * 10 ^ 0 % 10 ^ n) down ∙ no_rest (value_of t.whole) 0 0 (omega arith) in
    let large : size x ≡ value_of t.whole =
    ap (λ n. n / 10 ^ x.down) above ∙ ap (λ n. value_of t.whole * 10 ^ 0 / 10 ^ n) down ∙ quotient (value_of t.whole) 0 0 (omega arith) ∙ omega arith in
    chosen (is_whole x) (whole_num x.negative (size x)) (cond (is_one_one x) (Ok OneOne) (Err Fraction)) (eq-eqb (x.digits * 10 ^ x.up % 10 ^ x.down) 0 whole)
    ∙ ap (whole_num t.negative) large
  where
    either : (b : Bool) → ◌≡◌ {A = ℕ} (cond {A = ℕ} b 0 0) 0
    either true = refl
    either false = refl
