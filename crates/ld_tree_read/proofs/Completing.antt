-- Each beginning of a text goes on to one.
use Rattle.std.proofs.Common.{◌≡◌, ◌∙◌, refl, sym, ap, ℕ, zero, suc, ◌≤◌, Bool, true, false, ◌&&◌, ◌||◌, cond, nat_eq, nat_lt, List, [], ◌∷◌, ◌++◌, Option, Some, None, arith, le-ltb, eq-eqb, true≢false}
use Rattle.std.specs.Option.{is_some}
use Rattle.std.specs.Prelude.{codes}
use Rattle.ld_tree_read.specs.Begun.{after, lead_on, ends}
use Rattle.ld_tree.specs.Numbers.{is_digit}
use Rattle.ld_tree.specs.Reading.{is_white, hex}
use Rattle.ld_tree_read.specs.State.{Here, start, mark, value, item_or_end, name_or_end, name, colon, string, word, minus, zero_digit, whole, point, fraction, exponent, sign, power, done, Inside, plain, slash, first, second, digits, high, low_slash, low_u, low_first, low_second, begun, Tail, tail, Place, step, inside, is_plain, string_from, string_end, word_from, mark_from, value_from, after_value, behind, scale_from, fraction_from, if_hex, lead, from_lead, is_next, is_letter, rest_left, digits_left, high_left, outer}
use Rattle.ld_tree_read.specs.State.{Level}
use Rattle.ld_tree_read.specs.State.{in_list, in_map}

-- what is reached: rests of words and marks aren't empty, and some byte goes on a begun character
pub data IsInner : Option Inside → Type 0 where
  nothing : IsInner None
  at_plain : IsInner (Some plain)
  at_slash : IsInner (Some slash)
  at_first : IsInner (Some first)
  at_second : IsInner (Some second)
  at_digits : (n : ℕ) → IsInner (Some (digits n))
  at_high : (n : ℕ) → IsInner (Some (high n))
  at_low_slash : IsInner (Some low_slash)
  at_low_u : IsInner (Some low_u)
  at_low_first : IsInner (Some low_first)
  at_low_second : IsInner (Some low_second)
  at_begun : (low up more : ℕ) → low ≤ up → IsInner (Some (begun (tail low up more)))

either : (b : Bool) {x y : Option Inside} → IsInner x → IsInner y → IsInner (cond b x y)
either true x y = x
either false x y = y

if_digit : (o : Option ℕ) (f : ℕ → Option Inside) → ((v : ℕ) → IsInner (f v)) → IsInner (if_hex o f)
if_digit (Some v) f h = h v
if_digit None f h = nothing

-- a tail that some byte goes on
pub data IsTail : Option Tail → Type 0 where
  no_tail : IsTail None
  some_tail : (low up more : ℕ) → low ≤ up → IsTail (Some (tail low up more))

either_tail : (b : Bool) {x y : Option Tail} → IsTail x → IsTail y → IsTail (cond b x y)
either_tail true x y = x
either_tail false x y = y

lead_tail : (b : ℕ) → IsTail (lead b)
lead_tail b =
    either_tail (nat_lt b 194) no_tail (either_tail (nat_lt b 224) (some_tail 128 191 0 (omega arith))
    (either_tail (nat_eq b 224) (some_tail 160 191 1 (omega arith)) (either_tail (nat_eq b 237) (some_tail 128 159 1 (omega arith)) (either_tail (nat_lt b 240) (some_tail 128 191 1 (omega arith))
    (either_tail (nat_eq b 240) (some_tail 144 191 2 (omega arith)) (either_tail (nat_lt b 244) (some_tail 128 191 2 (omega arith)) (either_tail (nat_eq b 244) (some_tail 128 143 2 (omega arith)) no_tail)))))))

from_tail : {t : Option Tail} → IsTail t → IsInner (from_lead t)
from_tail no_tail = nothing
from_tail (some_tail low up more le) = at_begun low up more le

rest_inner : (n : ℕ) → IsInner (Some (rest_left n))
rest_inner zero = at_plain
rest_inner (suc n) = at_begun 128 191 n (omega arith)

digits_inner : (n : ℕ) → IsInner (Some (digits_left n))
digits_inner zero = at_plain
digits_inner (suc n) = at_digits n

high_inner : (n : ℕ) → IsInner (Some (high_left n))
high_inner zero = at_low_slash
high_inner (suc n) = at_high n

either_inside : (b : Bool) {x y : Inside} → IsInner (Some x) → IsInner (Some y) → IsInner (Some (cond b x y))
either_inside true x y = x
either_inside false x y = y

inner : (i : Inside) (b : ℕ) → IsInner (inside i b)
unfolding inside
inner plain b = either (nat_lt b 32) nothing (either (nat_eq b 92) at_slash (either (nat_lt b 128) at_plain (from_tail (lead_tail b))))
inner slash b = either (is_letter b) at_plain (either (nat_eq b 117) at_first nothing)
inner first b = if_digit (hex b) _ (λ v. either_inside (nat_eq v 13) at_second (at_digits 2))
inner second b = if_digit (hex b) _ (λ v. either (nat_lt v 8) (at_digits 1) (either (nat_lt v 12) (at_high 1) nothing))
inner (digits n) b = if_digit (hex b) _ (λ v. digits_inner n)
inner (high n) b = if_digit (hex b) _ (λ v. high_inner n)
inner low_slash b = either (nat_eq b 92) at_low_u nothing
inner low_u b = either (nat_eq b 117) at_low_first nothing
inner low_first b = if_digit (hex b) _ (λ v. either (nat_eq v 13) at_low_second nothing)
inner low_second b = if_digit (hex b) _ (λ v. either (nat_lt 11 v) (at_digits 1) nothing)
inner (begun (tail low up more)) b = either (is_next (tail low up more) b) (rest_inner more) nothing

-- a place that is reached
abbrev pub Sound : Here → Type 0
Sound (mark []) = ⊥
Sound (word []) = ⊥
Sound (string n i) = IsInner (Some i)
Sound _ = Unit {0}

pub data IsReached : Option Place → Type 0 where
  nowhere : IsReached None
  reached : (fs : List Level) (here : Here) → Sound here → IsReached (Some (fs, here))

or : (b : Bool) {x y : Option Place} → IsReached x → IsReached y → IsReached (cond b x y)
or true x y = x
or false x y = y

value_reached : (fs : List Level) (b : ℕ) → IsReached (value_from fs b)
value_reached fs b =
    or (nat_eq b 34) (reached fs (string false plain) at_plain) (or (nat_eq b 91) (reached (in_list ∷ fs) item_or_end tt) (or (nat_eq b 123) (reached (in_map ∷ fs) name_or_end tt)
    (or (nat_eq b 110) (reached fs (word (codes "ull")) tt) (or (nat_eq b 116) (reached fs (word (codes "rue")) tt) (or (nat_eq b 102) (reached fs (word (codes "alse")) tt)
    (or (nat_eq b 45) (reached fs minus tt) (or (nat_eq b 48) (reached fs zero_digit tt) (or (is_digit b) (reached fs whole tt) nowhere))))))))

after_reached : (fs : List Level) (b : ℕ) → IsReached (after_value fs b)
after_reached [] b = nowhere
after_reached (in_list ∷ fs) b = or (nat_eq b 44) (reached (in_list ∷ fs) value tt) (or (nat_eq b 93) (reached fs done tt) nowhere)
after_reached (in_map ∷ fs) b = or (nat_eq b 44) (reached (in_map ∷ fs) name tt) (or (nat_eq b 125) (reached fs done tt) nowhere)

behind_reached : (fs : List Level) (b : ℕ) → IsReached (behind fs b)
behind_reached fs b = or (is_white b) (reached fs done tt) (after_reached fs b)

scale_reached : (fs : List Level) (b : ℕ) → IsReached (scale_from fs b)
scale_reached fs b = or (nat_eq b 69 || nat_eq b 101) (reached fs exponent tt) (behind_reached fs b)

fraction_reached : (fs : List Level) (b : ℕ) → IsReached (fraction_from fs b)
fraction_reached fs b = or (nat_eq b 46) (reached fs point tt) (scale_reached fs b)

word_reached : (fs : List Level) (cs : List ℕ) → IsReached (word_from fs cs)
word_reached fs [] = reached fs done tt
word_reached fs (c ∷ cs) = reached fs (word (c ∷ cs)) tt

mark_reached : (fs : List Level) (cs : List ℕ) → IsReached (mark_from fs cs)
mark_reached fs [] = reached fs value tt
mark_reached fs (c ∷ cs) = reached fs (mark (c ∷ cs)) tt

string_reached : (fs : List Level) (n : Bool) (i : Option Inside) → IsInner i → IsReached (string_from fs n i)
string_reached fs n None h = nowhere
string_reached fs n (Some i) h = reached fs (string n i) h

end_reached : (fs : List Level) (n : Bool) → IsReached (Some (fs, string_end n))
end_reached fs true = reached fs colon tt
end_reached fs false = reached fs done tt

step_reached : (fs : List Level) (here : Here) (b : ℕ) → IsReached (step fs here b)
unfolding step
step_reached fs start b = or (nat_eq b 239) (reached fs (mark (187 ∷ 191 ∷ [])) tt) (or (is_white b) (reached fs value tt) (value_reached fs b))
step_reached fs (mark []) b = nowhere
step_reached fs (mark (c ∷ cs)) b = or (nat_eq b c) (mark_reached fs cs) nowhere
step_reached fs value b = or (is_white b) (reached fs value tt) (value_reached fs b)
step_reached fs item_or_end b = or (is_white b) (reached fs item_or_end tt) (or (nat_eq b 93) (reached (outer fs) done tt) (value_reached fs b))
step_reached fs name_or_end b = or (is_white b) (reached fs name_or_end tt) (or (nat_eq b 125) (reached (outer fs) done tt) (or (nat_eq b 34) (reached fs (string true plain) at_plain) nowhere))
step_reached fs name b = or (is_white b) (reached fs name tt) (or (nat_eq b 34) (reached fs (string true plain) at_plain) nowhere)
step_reached fs colon b = or (is_white b) (reached fs colon tt) (or (nat_eq b 58) (reached fs value tt) nowhere)
step_reached fs (string n i) b = or (is_plain i && nat_eq b 34) (end_reached fs n) (string_reached fs n (inside i b) (inner i b))
step_reached fs (word []) b = nowhere
step_reached fs (word (c ∷ cs)) b = or (nat_eq b c) (word_reached fs cs) nowhere
step_reached fs minus b = or (nat_eq b 48) (reached fs zero_digit tt) (or (is_digit b) (reached fs whole tt) nowhere)
step_reached fs zero_digit b = fraction_reached fs b
step_reached fs whole b = or (is_digit b) (reached fs whole tt) (fraction_reached fs b)
step_reached fs point b = or (is_digit b) (reached fs fraction tt) nowhere
step_reached fs fraction b = or (is_digit b) (reached fs fraction tt) (scale_reached fs b)
step_reached fs exponent b = or (nat_eq b 43 || nat_eq b 45) (reached fs sign tt) (or (is_digit b) (reached fs power tt) nowhere)
step_reached fs sign b = or (is_digit b) (reached fs power tt) nowhere
step_reached fs power b = or (is_digit b) (reached fs power tt) (behind_reached fs b)
step_reached fs done b = behind_reached fs b

-- bytes that end a text from a place
abbrev pub Completes : List Level → Here → Type 0
Completes fs here = (more : List ℕ) × (ends (after fs here more) ≡ true)

done_completes : (fs : List Level) → Completes fs done
unfolding after step
done_completes [] = ([], refl)
done_completes (in_list ∷ fs) = let (m, h) = done_completes fs in (93 ∷ m, h)
done_completes (in_map ∷ fs) = let (m, h) = done_completes fs in (125 ∷ m, h)

number_completes : (fs : List Level) → Completes fs zero_digit × Completes fs whole × Completes fs fraction × Completes fs power
unfolding after step
number_completes [] = (([], refl), ([], refl), ([], refl), ([], refl))
number_completes (in_list ∷ fs) = let (m, h) = done_completes fs in ((93 ∷ m, h), (93 ∷ m, h), (93 ∷ m, h), (93 ∷ m, h))
number_completes (in_map ∷ fs) = let (m, h) = done_completes fs in ((125 ∷ m, h), (125 ∷ m, h), (125 ∷ m, h), (125 ∷ m, h))

value_completes : (fs : List Level) → Completes fs value
unfolding after step
value_completes fs = let (m, h) = done_completes fs in (110 ∷ 117 ∷ 108 ∷ 108 ∷ m, h)

colon_completes : (fs : List Level) → Completes fs colon
unfolding after step
colon_completes fs = let (m, h) = value_completes fs in (58 ∷ m, h)

plain_completes : (fs : List Level) (n : Bool) → Completes fs (string n plain)
unfolding after step
plain_completes fs true = let (m, h) = colon_completes fs in (34 ∷ m, h)
plain_completes fs false = let (m, h) = done_completes fs in (34 ∷ m, h)

digits_completes : (fs : List Level) (n : Bool) (k : ℕ) → Completes fs (string n (digits k))
unfolding after step inside
digits_completes fs n zero = let (m, h) = plain_completes fs n in (48 ∷ m, h)
digits_completes fs n (suc k) = let (m, h) = digits_completes fs n k in (48 ∷ m, h)

low_completes : (fs : List Level) (n : Bool) → Completes fs (string n low_second) × Completes fs (string n low_first) × Completes fs (string n low_u) × Completes fs (string n low_slash)
unfolding after step inside
low_completes fs n = let (m, h) = digits_completes fs n 1 in ((67 ∷ m, h), (68 ∷ 67 ∷ m, h), (117 ∷ 68 ∷ 67 ∷ m, h), (92 ∷ 117 ∷ 68 ∷ 67 ∷ m, h))

high_completes : (fs : List Level) (n : Bool) (k : ℕ) → Completes fs (string n (high k))
unfolding after step inside
high_completes fs n zero = let (m, h) = (low_completes fs n).3 in (48 ∷ m, h)
high_completes fs n (suc k) = let (m, h) = high_completes fs n k in (48 ∷ m, h)

rest_completes : (fs : List Level) (n : Bool) (k : ℕ) → Completes fs (string n (rest_left k))
unfolding after step inside
rest_completes fs n zero = plain_completes fs n
rest_completes fs n (suc k) = let (m, h) = rest_completes fs n k in (128 ∷ m, h)

inner_completes : (fs : List Level) (n : Bool) (i : Inside) → IsInner (Some i) → Completes fs (string n i)
unfolding after step inside
inner_completes fs n plain w = plain_completes fs n
inner_completes fs n slash w = let (m, h) = plain_completes fs n in (110 ∷ m, h)
inner_completes fs n first w = let (m, h) = digits_completes fs n 2 in (48 ∷ m, h)
inner_completes fs n second w = let (m, h) = digits_completes fs n 1 in (48 ∷ m, h)
inner_completes fs n (digits k) w = digits_completes fs n k
inner_completes fs n (high k) w = high_completes fs n k
inner_completes fs n low_slash w = (low_completes fs n).3
inner_completes fs n low_u w = (low_completes fs n).2
inner_completes fs n low_first w = (low_completes fs n).1
inner_completes fs n low_second w = (low_completes fs n).0
inner_completes fs n (begun (tail low up more)) (at_begun _ _ _ le) =
    let (m, h) = rest_completes fs n more in
    let next : is_next (tail low up more) low ≡ true = rw (le-ltb low low (omega arith), le-ltb up low le) refl in
    (low ∷ m, ap (λ b. ends (lead_on (string_from fs n (cond b (Some (rest_left more)) None)) (λ p. after p.0 p.1 m))) next ∙ h)

word_completes : (fs : List Level) (c : ℕ) (cs : List ℕ) → Completes fs (word (c ∷ cs))
unfolding after step
word_completes fs c [] = let (m, h) = done_completes fs in (c ∷ m, ap (λ b. ends (lead_on (cond b (Some (fs, done)) None) (λ p. after p.0 p.1 m))) (eq-eqb c c refl) ∙ h)
word_completes fs c (d ∷ ds) = let (m, h) = word_completes fs d ds in (c ∷ m, ap (λ b. ends (lead_on (cond b (Some (fs, word (d ∷ ds))) None) (λ p. after p.0 p.1 m))) (eq-eqb c c refl) ∙ h)

mark_completes : (fs : List Level) (c : ℕ) (cs : List ℕ) → Completes fs (mark (c ∷ cs))
unfolding after step
mark_completes fs c [] = let (m, h) = value_completes fs in (c ∷ m, ap (λ b. ends (lead_on (cond b (Some (fs, value)) None) (λ p. after p.0 p.1 m))) (eq-eqb c c refl) ∙ h)
mark_completes fs c (d ∷ ds) = let (m, h) = mark_completes fs d ds in (c ∷ m, ap (λ b. ends (lead_on (cond b (Some (fs, mark (d ∷ ds))) None) (λ p. after p.0 p.1 m))) (eq-eqb c c refl) ∙ h)

pub completes : (fs : List Level) (here : Here) → Sound here → Completes fs here
unfolding after step
completes fs start w = let (m, h) = done_completes fs in (110 ∷ 117 ∷ 108 ∷ 108 ∷ m, h)
completes fs (mark []) w = absurd w
completes fs (mark (c ∷ cs)) w = mark_completes fs c cs
completes fs value w = value_completes fs
completes fs item_or_end w = let (m, h) = done_completes fs in (110 ∷ 117 ∷ 108 ∷ 108 ∷ m, h)
completes fs name_or_end w = let (m, h) = colon_completes fs in (34 ∷ 34 ∷ m, h)
completes fs name w = let (m, h) = colon_completes fs in (34 ∷ 34 ∷ m, h)
completes fs colon w = colon_completes fs
completes fs (string n i) w = inner_completes fs n i w
completes fs (word []) w = absurd w
completes fs (word (c ∷ cs)) w = word_completes fs c cs
completes fs minus w = let (m, h) = (number_completes fs).0 in (48 ∷ m, h)
completes fs zero_digit w = (number_completes fs).0
completes fs whole w = (number_completes fs).1
completes fs point w = let (m, h) = (number_completes fs).2 in (48 ∷ m, h)
completes fs fraction w = (number_completes fs).2
completes fs exponent w = let (m, h) = (number_completes fs).3 in (48 ∷ m, h)
completes fs sign w = let (m, h) = (number_completes fs).3 in (48 ∷ m, h)
completes fs power w = (number_completes fs).3
completes fs done w = done_completes fs

pub goes_on : (fs : List Level) (here : Here) (bs : List ℕ) → Sound here → is_some (after fs here bs) ≡ true → (more : List ℕ) × (ends (after fs here (bs ++ more)) ≡ true)
unfolding after
goes_on fs here [] w h = completes fs here w
goes_on fs here (b ∷ bs) w h = go (step fs here b) (step_reached fs here b) (λ gs there v. goes_on gs there bs v) h
  where
    go : (s : Option Place) → IsReached s → ((gs : List Level) (there : Here) → Sound there → is_some (after gs there bs) ≡ true → (more : List ℕ) × (ends (after gs there (bs ++ more)) ≡ true))
        → is_some (lead_on s (λ p. after p.0 p.1 bs)) ≡ true → (more : List ℕ) × (ends (lead_on s (λ p. after p.0 p.1 (bs ++ more))) ≡ true)
    go None v ih h = absurd (true≢false (sym h))
    go (Some p) (reached gs there v) ih h = ih gs there v h
