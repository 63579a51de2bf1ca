-- How many rounds there are, where each follows when it is due.
use Rattle.std.proofs.Common.{◌≡◌, ◌∙◌, ◌⊎◌, inl, inr, ℕ, ◌+◌, ◌*◌, ◌/◌, ◌%◌, ◌==◌, ◌<◌, ◌≤◌, Bool, true, false, List, [], ◌∷◌, ◌++◌, Option, Some, None, length, refl, sym, ap, subst, arith, length-append, eq-eqb}
use Rattle.std.specs.Prelude.{is_some, not, ◌&&◌, if◌then◌else◌}
use Rattle.std.specs.Option.{option_to_list}
use Rattle.std.proofs.lemmas.Bool.{cases_lt, eqb-true}
use Rattle.std.proofs.lemmas.Nat.{div-add-mod', div-mul-add, mod-mul-add, mod_below}
use Rattle.ld_work.specs.Working.{ArePaced, Deed, is_due, rounds_due, rounds_of}
use Rattle.ld_work.specs.declared.report.RoundReport.{RoundReport}

some_from : (n : ℕ) → (n == 0) ≡ false → 0 < n
some_from n is =
    elim (cases_lt 0 n) [
      | inl some ↦ some
      | inr none ↦ let yes_it_is = eq-eqb n 0 (omega (arith, none)) in cc
    ]

one_row_more : (q e : ℕ) → (q + 1) * e ≡ q * e + e
one_row_more q e = grind arith

-- the next number is a multiple
quotient_up : (k e : ℕ) → 0 < e → k % e + 1 ≡ e → ((k + 1) / e ≡ k / e + 1) × ((k + 1) % e ≡ 0)
quotient_up k e some full =
    let parts = div-add-mod' k e in
    let row = one_row_more (k / e) e in
    let next : (k / e + 1) * e + 0 ≡ k + 1 = omega (arith, parts, row, full) in
    (subst (λ n. n / e ≡ k / e + 1) next (div-mul-add (k / e + 1) e 0 some), subst (λ n. n % e ≡ 0) next (mod-mul-add (k / e + 1) e 0 some))

-- and it isn't
quotient_same : (k e : ℕ) → k % e + 1 < e → ((k + 1) / e ≡ k / e) × ((k + 1) % e ≡ k % e + 1)
quotient_same k e low =
    let parts = div-add-mod' k e in
    let next : k / e * e + (k % e + 1) ≡ k + 1 = omega (arith, parts) in
    (subst (λ n. n / e ≡ k / e) next (div-mul-add (k / e) e (k % e + 1) low), subst (λ n. n % e ≡ k % e + 1) next (mod-mul-add (k / e) e (k % e + 1) low))

step_by : (k e next rest q : ℕ) (b : Bool) → (rest == 0) ≡ b → ((next ≡ q + 1) × (rest ≡ 0)) ⊎ ((next ≡ q) × (0 < rest)) → next ≡ q + (if b then 1 else 0)
step_by k e next rest q true is (inl up) = up.0
step_by k e next rest q false is (inl up) = let yes_it_is = eq-eqb rest 0 up.1 in cc
step_by k e next rest q true is (inr same) = let none = eqb-true rest 0 is in let some = same.1 in absurd (omega (arith, none, some))
step_by k e next rest q false is (inr same) = omega (arith, same.0)

quotient_on : (k e : ℕ) → 0 < e → (k + 1) / e ≡ k / e + (if (k + 1) % e == 0 then 1 else 0)
quotient_on k e some =
    step_by k e ((k + 1) / e) ((k + 1) % e) (k / e) ((k + 1) % e == 0) refl (elim (cases_lt (k % e + 1) e) [
      | inl low ↦ let s = quotient_same k e low in let r = s.1 in inr (s.0, omega (arith, r))
      | inr high ↦ let below = mod_below k e some in inl (quotient_up k e some (omega (arith, below, high)))
    ])

due_by : (every k : ℕ) (b : Bool) → (every == 0) ≡ b
    → (if b then 0 else (k + 1) / every) ≡ (if b then 0 else k / every) + (if not b && ((k + 1) % every == 0) then 1 else 0)
due_by every k true is = refl
due_by every k false is = quotient_on k every (some_from every is)

-- one connection more
pub due_on : (every k : ℕ) → rounds_due every (k + 1) ≡ rounds_due every k + (if is_due every (k + 1) then 1 else 0)
due_on every k = due_by every k (every == 0) refl

one_or_none : (r : Option RoundReport) (b : Bool) → is_some r ≡ b → length (option_to_list r) ≡ (if b then 1 else 0)
one_or_none None true e = cc
one_or_none None false e = refl
one_or_none (Some r) true e = refl
one_or_none (Some r) false e = cc

pub counted : (every before : ℕ) (deeds : List Deed) → ArePaced every before deeds → length (rounds_of deeds) + rounds_due every before ≡ rounds_due every (before + length deeds)
counted every before [] h =
    let same : before ≡ before + length {A = Deed} [] = omega arith in
    subst (λ n. 0 + rounds_due every before ≡ rounds_due every n) same (omega arith)
counted every before (d ∷ deeds) h =
    let rest = counted every (before + 1) deeds h.1 in
    let one = one_or_none d.round (is_due every (before + 1)) h.0 in
    let step = due_on every before in
    let all = length-append (option_to_list d.round) (rounds_of deeds) in
    let count : before + 1 + length deeds ≡ before + length (d ∷ deeds) = omega arith in
    subst (λ n. length (rounds_of (d ∷ deeds)) + rounds_due every before ≡ rounds_due every n) count (omega (arith, rest, one, step, all))

-- one thing more
pub paced_more : (every before : ℕ) (deeds : List Deed) (d : Deed) → ArePaced every before deeds → is_some d.round ≡ is_due every (before + length deeds + 1) → ArePaced every before (deeds ++ d ∷ [])
paced_more every before [] d h due = (subst (λ n. is_some d.round ≡ is_due every n) (omega arith) due, tt)
paced_more every before (x ∷ deeds) d h due = (h.0, paced_more every (before + 1) deeds d h.1 (subst (λ n. is_some d.round ≡ is_due every n) (omega arith) due))

pub paced_start : (every before : ℕ) → ArePaced every before []
paced_start every before = tt

none_by : (every : ℕ) (b : Bool) → (every == 0) ≡ b → (if b then 0 else 0 / every) ≡ 0
none_by every true is = refl
none_by every false is =
    let none : 0 * every + 0 ≡ 0 = omega arith in
    subst (λ n. n / every ≡ 0) none (div-mul-add 0 every 0 (some_from every is))

none_due : (every : ℕ) → rounds_due every 0 ≡ 0
none_due every = none_by every (every == 0) refl

-- from the first one on
pub all_counted : (every : ℕ) (deeds : List Deed) → ArePaced every 0 deeds → length (rounds_of deeds) ≡ rounds_due every (length deeds)
all_counted every deeds h =
    let all = counted every 0 deeds h in
    let none = none_due every in
    let same : 0 + length deeds ≡ length deeds = omega arith in
    subst (λ n. length (rounds_of deeds) ≡ rounds_due every n) same (omega (arith, all, none))
