-- Through the parts of a number, by its rules; and that what `number_at` finds is by the rules.
use Rattle.std.proofs.Common.{◌≡◌, ◌∙◌, refl, sym, ap, subst, ◌⊎◌, inl, inr, ℕ, ◌<◌, Bool, true, false, ◌||◌, true≢false, cond, nat_eq, List, [], ◌∷◌, take, drop, Option, Some, None, arith}
use Rattle.std.specs.List.{prefix_len}
use Rattle.ld_tree.specs.Numbers.{Token, Exp, is_digit, digits_at, int_at, frac_at, signed_digits, power_at, exp_at, ends_number, ◌>>=◌, unsigned_at}
use Rattle.ld_tree_read.specs.Grammar.{IsDigits, last_digit, digit, IsInt, zero_int, one_int, int, IsFrac, no_frac, frac, IsExp, no_exp, exp, signed_exp}
use Rattle.ld_tree_read.specs.Refusals.{takes_value, tail_of}
use Rattle.ld_tree_read.specs.State.{Level, Here, minus, zero_digit, whole, point, fraction, exponent, sign, power, done, step, behind, scale_from, fraction_from, is_behind}
use Rattle.ld_tree_read.proofs.Follows.{some_run}
use Rattle.ld_tree_read.proofs.Scaled.{same_nat}
use Rattle.ld_tree_read.proofs.Tokens.{not_byte, digit_stays, digit_bounds}
use Rattle.ld_tree_read.proofs.Words.{run_more}
use Rattle.ld_tree.proofs.Once.{neither, not_false}

-- a number ends before a byte that stands in none
pub record Over (b : ℕ) : Type 0 where
  pub no_digit : is_digit b ≡ false
  pub no_point : nat_eq b 46 ≡ false
  pub no_large : nat_eq b 69 ≡ false
  pub no_small : nat_eq b 101 ≡ false

pub over_is : (b : ℕ) (r : List ℕ) → ends_number (b ∷ r) ≡ true → Over b
over_is b r h =
    let w = neither (is_digit b) _ (not_false _ h) in
    let x = neither (nat_eq b 46) _ w.1 in
    let y = neither (nat_eq b 69) _ x.1 in
    let z = neither (nat_eq b 101) _ y.1 in
    record { no_digit = w.0; no_point = x.0; no_large = y.0; no_small = z.0 }

either_byte : (P : ℕ → Type 0) (j k b : ℕ) → P j → P k → nat_eq b j || nat_eq b k ≡ true → P b
either_byte P j k b p q h = at (nat_eq b j) (nat_eq b k) refl refl h
  where
    at : (x y : Bool) → nat_eq b j ≡ x → nat_eq b k ≡ y → x || y ≡ true → P b
    at true y e f h = subst P (sym (same_nat b j e)) p
    at false true e f h = subst P (sym (same_nat b k f)) q
    at false false e f h = cc

digit_is_not : (d : ℕ) → is_digit d ≡ true → (k : ℕ) → (k < 48) ⊎ (57 < k) → nat_eq d k ≡ false
digit_is_not d e k far =
    let w = digit_bounds d e in
    not_byte d k (λ is. elim far [ inl low ↦ omega (arith, low, is, w.0) | inr up ↦ omega (arith, up, is, w.1) ])

-- what holds before a byte that leads on where it holds behind it, and before a part that is over where it holds behind the number
module _ (fs : List Level) (Q : Here → List ℕ → Type 0) (go : (here there : Here) (b : ℕ) (bs : List ℕ) → takes_value here ≡ false → step fs here b ≡ Some (fs, there) → Q there bs → Q here (b ∷ bs))
    (over : (here : Here) (bs : List ℕ) → takes_value here ≡ false → is_behind here ≡ true → tail_of here ≡ None → ((b : ℕ) (r : List ℕ) → bs ≡ b ∷ r → step fs here b ≡ step fs done b) → Q done bs → Q here bs) where
  module _ (r : List ℕ) (ends : ends_number r ≡ true) where
    at_end : (b : ℕ) (q : List ℕ) → r ≡ b ∷ q → Over b
    at_end b q e = over_is b q (subst (λ r. ends_number r ≡ true) e ends)

    zero_over : Q done r → Q zero_digit r
    unfolding step
    zero_over h = over zero_digit r refl refl refl (λ b q e. let w = at_end b q e in rw (w.no_point, w.no_large, w.no_small) refl) h

    whole_over : Q done r → Q whole r
    unfolding step
    whole_over h = over whole r refl refl refl (λ b q e. let w = at_end b q e in rw (w.no_digit, w.no_point, w.no_large, w.no_small) refl) h

    fraction_over : Q done r → Q fraction r
    unfolding step
    fraction_over h = over fraction r refl refl refl (λ b q e. let w = at_end b q e in rw (w.no_digit, w.no_large, w.no_small) refl) h

    power_over : Q done r → Q power r
    unfolding step
    power_over h = over power r refl refl refl (λ b q e. let w = at_end b q e in rw w.no_digit refl) h

  stay : (there : Here) → takes_value there ≡ false → ((d : ℕ) → is_digit d ≡ true → step fs there d ≡ Some (fs, there)) → {c r : List ℕ} → IsDigits c r → Q there r → Q there c
  stay there v more (last_digit d {r = r} e) h = go there there d r v (more d e) h
  stay there v more (digit d {c = c} e w) h = go there there d c v (more d e) (stay there v more w h)

  digits_from : (here there : Here) → takes_value here ≡ false → takes_value there ≡ false → ((d : ℕ) → is_digit d ≡ true → step fs there d ≡ Some (fs, there)) → ((d : ℕ) → is_digit d ≡ true → step fs here d ≡ Some (fs, there))
      → {c r : List ℕ} → IsDigits c r → Q there r → Q here c
  digits_from here there u v more leads (last_digit d {r = r} e) h = go here there d r u (leads d e) h
  digits_from here there u v more leads (digit d {c = c} e w) h = go here there d c u (leads d e) (stay there v more w h)

  power_from : (here : Here) → takes_value here ≡ false → ((d : ℕ) → is_digit d ≡ true → step fs here d ≡ Some (fs, power)) → {c r : List ℕ} → ends_number r ≡ true → IsDigits c r → Q done r → Q here c
  unfolding step
  power_from here v leads {r = r} ends w h = digits_from here power v refl (λ d e. digit_stays fs power d (behind fs d) e) leads w (power_over r ends h)

  exponent_digit : (d : ℕ) → is_digit d ≡ true → step fs exponent d ≡ Some (fs, power)
  unfolding step
  exponent_digit d e = rw (digit_is_not d e 43 (inl (omega arith)), digit_is_not d e 45 (inl (omega arith)), e) refl

  sign_digit : (d : ℕ) → is_digit d ≡ true → step fs sign d ≡ Some (fs, power)
  unfolding step
  sign_digit d e = digit_stays fs power d None e

  signed : (s : ℕ) → nat_eq s 43 || nat_eq s 45 ≡ true → step fs exponent s ≡ Some (fs, sign)
  unfolding step
  signed s h = either_byte (λ s. step fs exponent s ≡ Some (fs, sign)) 43 45 s refl refl h

  -- a part behind which a number may end
  record Part (here : Here) : Type 0 where
    pub value : takes_value here ≡ false
    pub ends : (r : List ℕ) → ends_number r ≡ true → Q done r → Q here r
    pub exps : (e : ℕ) → nat_eq e 69 || nat_eq e 101 ≡ true → step fs here e ≡ Some (fs, exponent)

  at_zero : Part zero_digit
  unfolding step
  at_zero = record { value = refl; ends = λ r e h. zero_over r e h; exps = λ e h. either_byte (λ e. step fs zero_digit e ≡ Some (fs, exponent)) 69 101 e refl refl h }

  at_whole : Part whole
  unfolding step
  at_whole = record { value = refl; ends = λ r e h. whole_over r e h; exps = λ e h. either_byte (λ e. step fs whole e ≡ Some (fs, exponent)) 69 101 e refl refl h }

  at_fraction : Part fraction
  unfolding step
  at_fraction = record { value = refl; ends = λ r e h. fraction_over r e h; exps = λ e h. either_byte (λ e. step fs fraction e ≡ Some (fs, exponent)) 69 101 e refl refl h }

  exp_from : (here : Here) → Part here → {d r : List ℕ} → ends_number r ≡ true → IsExp d r → Q done r → Q here d
  exp_from here m {d} ends no_exp h = m.ends d ends h
  exp_from here m ends (exp e {c = c} le w) h = go here exponent e c m.value (m.exps e le) (power_from exponent refl exponent_digit ends w h)
  exp_from here m ends (signed_exp e s {c = c} le ls w) h =
      go here exponent e (s ∷ c) m.value (m.exps e le) (go exponent sign s c refl (signed s ls) (power_from sign refl sign_digit ends w h))

  frac_from : (here : Here) → Part here → step fs here 46 ≡ Some (fs, point) → {c d r : List ℕ} → ends_number r ≡ true → IsFrac c d → IsExp d r → Q done r → Q here c
  unfolding step
  frac_from here m dot ends no_frac w h = exp_from here m ends w h
  frac_from here m dot ends (frac {c = c} ds) w h =
      go here point 46 c m.value dot
      (digits_from point fraction refl refl (λ d e. digit_stays fs fraction d (scale_from fs d) e) (λ d e. digit_stays fs fraction d None e) ds (exp_from fraction at_fraction ends w h))

  whole_first : (d : ℕ) → is_digit d ≡ true → nat_eq d 48 ≡ false → step fs minus d ≡ Some (fs, whole)
  unfolding step
  whole_first d e n = rw (n, e) refl

  whole_stays : (d : ℕ) → is_digit d ≡ true → step fs whole d ≡ Some (fs, whole)
  unfolding step
  whole_stays d e = digit_stays fs whole d (fraction_from fs d) e

  zero_next : step fs minus 48 ≡ Some (fs, zero_digit)
  unfolding step
  zero_next = refl

  dots : (step fs zero_digit 46 ≡ Some (fs, point)) × (step fs whole 46 ≡ Some (fs, point))
  unfolding step
  dots = (refl, refl)

  pub int_from : {b c d r : List ℕ} → ends_number r ≡ true → IsInt b c → IsFrac c d → IsExp d r → Q done r → Q minus b
  int_from {c = c} ends zero_int f e h = go minus zero_digit 48 c refl zero_next (frac_from zero_digit at_zero dots.0 ends f e h)
  int_from {c = c} ends (one_int d is n) f e h = go minus whole d c refl (whole_first d is n) (frac_from whole at_whole dots.1 ends f e h)
  int_from ends (int d {c = k} is n ds) f e h = go minus whole d k refl (whole_first d is n) (stay whole refl whole_stays ds (frac_from whole at_whole dots.1 ends f e h))

-- ---- what the functions find, by the rules
run_digits : (bs : List ℕ) → (prefix_len is_digit bs ≡ 0 → ⊥) → IsDigits bs (drop (prefix_len is_digit bs) bs)
run_digits [] some = absurd (some refl)
run_digits (b ∷ bs) some =
    let one = some_run is_digit b bs some in
    subst (λ n. IsDigits (b ∷ bs) (drop n (b ∷ bs))) (sym (run_more is_digit b bs one)) (go (nat_eq (prefix_len is_digit bs) 0) refl one (run_digits bs))
  where
    go : (v : Bool) → nat_eq (prefix_len is_digit bs) 0 ≡ v → is_digit b ≡ true → ((prefix_len is_digit bs ≡ 0 → ⊥) → IsDigits bs (drop (prefix_len is_digit bs) bs)) → IsDigits (b ∷ bs) (drop (prefix_len is_digit bs) bs)
    go true e one more = let none = same_nat (prefix_len is_digit bs) 0 e in subst (λ n. IsDigits (b ∷ bs) (drop n bs)) (sym none) (last_digit b one)
    go false e one more = digit b one (more (λ none. true≢false (sym (ap (λ n. nat_eq n 0) none) ∙ e)))

module _ {A : Type 0} where
  some_rest : (x y : A) (r s : List ℕ) → ◌≡◌ {A = Option (A × List ℕ)} (Some (x, r)) (Some (y, s)) → r ≡ s
  some_rest x y r s e = let pairs : ◌≡◌ {A = A × List ℕ} (x, r) (y, s) = cc in ap (λ (p : A × List ℕ). p.1) pairs

  none_some : (y : A) → ◌≡◌ {A = Option A} None (Some y) → ⊥
  none_some y e = cc

digits_rule : (b ds r : List ℕ) → digits_at b ≡ Some (ds, r) → IsDigits b r
digits_rule b ds r e = go (nat_eq (prefix_len is_digit b) 0) refl e
  where
    go : (v : Bool) → nat_eq (prefix_len is_digit b) 0 ≡ v → cond {A = Option (List ℕ × List ℕ)} v None (Some (take (prefix_len is_digit b) b, drop (prefix_len is_digit b) b)) ≡ Some (ds, r) → IsDigits b r
    go true z e = absurd (none_some (ds, r) e)
    go false z e = subst (IsDigits b) (some_rest _ ds _ r e) (run_digits b (λ none. true≢false (sym (ap (λ n. nat_eq n 0) none) ∙ z)))

int_of : {x : ℕ} {b r : List ℕ} → nat_eq x 48 ≡ false → IsDigits (x ∷ b) r → IsInt (x ∷ b) r
int_of n (last_digit d e) = one_int d e n
int_of n (digit d e w) = int d e n w

int_rule : (b ds r : List ℕ) → int_at b ≡ Some (ds, r) → IsInt b r
int_rule [] ds r e = absurd (none_some (ds, r) e)
int_rule (x ∷ b) ds r e = go (nat_eq x 48) refl e
  where
    go : (v : Bool) → nat_eq x 48 ≡ v → cond {A = Option (List ℕ × List ℕ)} v (Some (48 ∷ [], b)) (digits_at (x ∷ b)) ≡ Some (ds, r) → IsInt (x ∷ b) r
    go true is e = subst (λ x. IsInt (x ∷ b) r) (sym (same_nat x 48 is)) (subst (IsInt (48 ∷ b)) (some_rest (48 ∷ []) ds b r e) zero_int)
    go false is e = int_of is (digits_rule (x ∷ b) ds r e)

frac_rule : (b ds r : List ℕ) → frac_at b ≡ Some (ds, r) → IsFrac b r
frac_rule [] ds r e = subst (IsFrac []) (some_rest [] ds [] r e) no_frac
frac_rule (x ∷ b) ds r e = go (nat_eq x 46) refl e
  where
    go : (v : Bool) → nat_eq x 46 ≡ v → cond {A = Option (List ℕ × List ℕ)} v (digits_at b) (Some ([], x ∷ b)) ≡ Some (ds, r) → IsFrac (x ∷ b) r
    go true is e = subst (λ x. IsFrac (x ∷ b) r) (sym (same_nat x 46 is)) (frac (digits_rule b ds r e))
    go false is e = subst (IsFrac (x ∷ b)) (some_rest [] ds (x ∷ b) r e) no_frac

signed_rule : (lowers : Bool) (b r : List ℕ) (x : Exp) → signed_digits lowers (digits_at b) ≡ Some (x, r) → IsDigits b r
signed_rule lowers b r x e = go (digits_at b) refl e
  where
    go : (o : Option (List ℕ × List ℕ)) → digits_at b ≡ o → signed_digits lowers o ≡ Some (x, r) → IsDigits b r
    go (Some (ds, s)) is e = digits_rule b ds r (is ∙ ap (λ r. Some (ds, r)) (some_rest (lowers, ds) x s r e))
    go None is e = absurd (none_some (x, r) e)

power_rule : (y : ℕ) → nat_eq y 69 || nat_eq y 101 ≡ true → (b r : List ℕ) (x : Exp) → power_at b ≡ Some (x, r) → IsExp (y ∷ b) r
power_rule y le [] r x e = absurd (none_some (x, r) e)
power_rule y le (z ∷ b) r x e = go (nat_eq z 45) (nat_eq z 43) refl refl e
  where
    go : (v w : Bool) → nat_eq z 45 ≡ v → nat_eq z 43 ≡ w
        → cond v (signed_digits true (digits_at b)) (cond w (signed_digits false (digits_at b)) (signed_digits false (digits_at (z ∷ b)))) ≡ Some (x, r) → IsExp (y ∷ z ∷ b) r
    go true w is is' e = signed_exp y z le (rw is (any (nat_eq z 43))) (signed_rule true b r x e)
      where
        any : (q : Bool) → q || true ≡ true
        any true = refl
        any false = refl
    go false true is is' e = signed_exp y z le (rw is' refl) (signed_rule false b r x e)
    go false false is is' e = exp y le (signed_rule false (z ∷ b) r x e)

exp_rule : (b r : List ℕ) (x : Exp) → exp_at b ≡ Some (x, r) → IsExp b r
exp_rule [] r x e = subst (IsExp []) (some_rest (false, []) x [] r e) no_exp
exp_rule (y ∷ b) r x e = go (nat_eq y 69 || nat_eq y 101) refl e
  where
    go : (v : Bool) → nat_eq y 69 || nat_eq y 101 ≡ v → cond {A = Option (Exp × List ℕ)} v (power_at b) (Some ((false, []), y ∷ b)) ≡ Some (x, r) → IsExp (y ∷ b) r
    go true is e = power_rule y is b r x e
    go false is e = subst (IsExp (y ∷ b)) (some_rest (false, []) x (y ∷ b) r e) no_exp

bound : {A B : Type 0} (o : Option A) (f : A → Option B) (y : B) → ◌>>=◌ o f ≡ Some y → (x : A) × (o ≡ Some x) × (f x ≡ Some y)
bound (Some x) f y e = (x, refl, e)
bound None f y e = absurd (none_some y e)

-- the parts of a number that has been found
pub record Found (b r : List ℕ) : Type 0 where
  pub c : List ℕ
  pub d : List ℕ
  pub at_int : IsInt b c
  pub at_frac : IsFrac c d
  pub at_exp : IsExp d r
  pub ends : ends_number r ≡ true

pub unsigned_rule : (negative : Bool) (b r : List ℕ) (t : Token) → unsigned_at negative b ≡ Some (t, r) → Found b r
unsigned_rule negative b r t e =
    let first = bound (int_at b) _ (t, r) e in
    let second = bound (frac_at first.0.1) _ (t, r) first.2 in
    let third = bound (exp_at second.0.1) _ (t, r) second.2 in
    let end = ended (ends_number third.0.1) third.0.1 _ refl third.2 in
    record {
      c = first.0.1;
      d = second.0.1;
      at_int = int_rule b first.0.0 first.0.1 first.1;
      at_frac = frac_rule first.0.1 second.0.0 second.0.1 second.1;
      at_exp = subst (IsExp second.0.1) end.0 (exp_rule second.0.1 third.0.1 third.0.0 third.1);
      ends = end.1;
    }
  where
    ended : (v : Bool) (s : List ℕ) (u : Token) → ends_number s ≡ v → cond {A = Option (Token × List ℕ)} v (Some (u, s)) None ≡ Some (t, r) → (s ≡ r) × (ends_number r ≡ true)
    ended true s u is e = let same = some_rest u t s r e in (same, subst (λ s. ends_number s ≡ true) same is)
    ended false s u is e = absurd (none_some (t, r) e)
