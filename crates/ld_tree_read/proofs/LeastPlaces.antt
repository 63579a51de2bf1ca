-- The laws of beginnings and of the first refusal.
use Rattle.std.proofs.Common.{◌≡◌, ◌∙◌, refl, sym, ap, subst, ℕ, suc, ◌+◌, ◌≤◌, Bool, true, false, true≢false, ◌||◌, cond, nat_eq, nat_lt, List, [], ◌∷◌, ◌++◌, take, Option, Some, None, Result, Ok, Err, length, arith}
use Rattle.std.specs.Option.{is_some}
use Rattle.std.proofs.lemmas.Option.{same_Some}
use Rattle.ld_tree_read.specs.Begun.{after, lead_on, ends, Refuses, ended, stuck, unread, later, place, is_stop, IsLongest}
use Rattle.ld_tree.specs.Numbers.{Token, exact, num_of}
use Rattle.ld_tree.specs.Numbers.{number_at}
use Rattle.ld_tree_read.specs.Refusals.{refusal, value_refusal, takes_value, number_refusal, fault_refusal, first_of, follow, byte_refusal, end_refusal, tail_of, is_char_byte}
use Rattle.ld_tree_read.specs.State.{Here, Place, step, is_end}
use Rattle.ld_tree_read.specs.State.{Level}
use Rattle.ld_tree.specs.declared.tree.Num.{Num}
use Rattle.ld_tree.specs.declared.number.NumFault.{NumFault}
use Rattle.ld_tree.specs.declared.number.NumFault.TheVariants as f
use Rattle.ld_tree_read.specs.declared.refusal.ReadRefusal.{ReadRefusal}
use Rattle.ld_tree_read.specs.declared.refusal.ReadRefusal.TheVariants as r

-- prefixes
pub prefix : (fs : List Level) (here : Here) (bs more : List ℕ) → is_some (after fs here (bs ++ more)) ≡ true → is_some (after fs here bs) ≡ true
unfolding after
prefix fs here [] more h = refl
prefix fs here (b ∷ bs) more h = go (step fs here b) (λ p. prefix p.0 p.1 bs more) h
  where
    go : (s : Option Place) → ((p : Place) → is_some (after p.0 p.1 (bs ++ more)) ≡ true → is_some (after p.0 p.1 bs) ≡ true) → is_some (lead_on s (λ p. after p.0 p.1 (bs ++ more))) ≡ true → is_some (lead_on s (λ p. after p.0 p.1 bs)) ≡ true
    go None ih h = h
    go (Some p) ih h = ih p h

pub text_is_begun : (p : Option Place) → ends p ≡ true → is_some p ≡ true
text_is_begun None h = h
text_is_begun (Some p) h = refl

-- places
value_place : (at : ℕ) (fs : List Level) (here : Here) (b : ℕ) (bs : List ℕ) (e : ReadRefusal) → value_refusal at fs here b bs ≡ Some e → place e ≡ at
unfolding value_refusal
value_place at fs here b bs e h = go (takes_value here) (nat_eq b 91 || nat_eq b 123) (nat_lt (length fs) 128) (number_at (b ∷ bs)) h
  where
    at_some : (x : ReadRefusal) → Some x ≡ Some e → place x ≡ place e
    at_some x h = ap place (let w : x ≡ e = cc in w)

    fault : (v : Result Num NumFault) → fault_refusal at v ≡ Some e → place e ≡ at
    fault (Ok v) h = absurd (let w : None ≡ Some e = h in cc)
    fault (Err f.Fraction) h = sym (at_some (r.Fraction at) h)
    fault (Err f.TooLarge) h = sym (at_some (r.TooLarge at) h)

    number : (t : Option (Token × List ℕ)) → number_refusal at t ≡ Some e → place e ≡ at
    number None h = absurd (let w : None ≡ Some e = h in cc)
    number (Some t) h = fault (num_of (exact t.0)) h

    go : (t o l : Bool) (n : Option (Token × List ℕ)) → cond t (cond o (cond l None (Some (r.TooDeep at))) (number_refusal at n)) None ≡ Some e → place e ≡ at
    go false o l n h = absurd (let w : None ≡ Some e = h in cc)
    go true false l n h = number n h
    go true true true n h = absurd (let w : None ≡ Some e = h in cc)
    go true true false n h = sym (at_some (r.TooDeep at) h)

end_place : (at : ℕ) (here : Here) → place (end_refusal at here) ≡ at
end_place at here = go (is_some (tail_of here))
  where
    go : (b : Bool) → place (cond b (r.NotUtf8 at) (r.Syntax at)) ≡ at
    go true = refl
    go false = refl

byte_place : (at : ℕ) (here : Here) (b : ℕ) → place (byte_refusal at here b) ≡ at
byte_place at here b = go (is_char_byte (tail_of here) b)
  where
    go : (b : Bool) → place (cond b (r.Syntax at) (r.NotUtf8 at)) ≡ at
    go true = refl
    go false = refl

from_here : {at : ℕ} {fs : List Level} {here : Here} {bs : List ℕ} {e : ReadRefusal} → Refuses at fs here bs e → at ≤ place e
from_here {at} (ended {here = here} h) = let p = end_place at here in omega (arith, p)
from_here {at} (stuck {here = here} {b = b} h) = let p = byte_place at here b in omega (arith, p)
from_here {at} (unread {fs = fs} {here = here} {b = b} {bs = bs} {e = e} h) = let p = value_place at fs here b bs e h in omega (arith, p)
from_here {at} (later gs there h w) = let p = from_here w in omega (arith, p)

-- what is refused behind a byte that leads on
passes : {at : ℕ} {fs : List Level} {here : Here} {b : ℕ} {bs : List ℕ} {e : ReadRefusal} (p : Place) → value_refusal at fs here b bs ≡ None → step fs here b ≡ Some p → Refuses at fs here (b ∷ bs) e → Refuses (at + 1) p.0 p.1 bs e
passes p v s (stuck h) = absurd (let w : None ≡ Some p = sym h ∙ s in cc)
passes {e = e} p v s (unread h) = absurd (let w : None ≡ Some e = sym v ∙ h in cc)
passes {at} {bs = bs} {e = e} p v s (later gs there h w) = subst (λ p. Refuses (at + 1) p.0 p.1 bs e) (same_Some (gs, there) p (sym h ∙ s)) w

-- the first refusal
pub stands : (at : ℕ) (fs : List Level) (here : Here) (bs : List ℕ) (e : ReadRefusal) → refusal at fs here bs ≡ Some e → Refuses at fs here bs e
unfolding refusal
stands at fs here [] e h = go (is_end fs here) refl h
  where
    go : (b : Bool) → is_end fs here ≡ b → cond b None (Some (end_refusal at here)) ≡ Some e → Refuses at fs here [] e
    go true is h = absurd (let w : None ≡ Some e = h in cc)
    go false is h = subst (Refuses at fs here []) (same_Some (end_refusal at here) e h) (ended is)
stands at fs here (b ∷ bs) e h = go (value_refusal at fs here b bs) (step fs here b) refl refl (λ p. stands (at + 1) p.0 p.1 bs e) h
  where
    go : (v : Option ReadRefusal) (s : Option Place) → value_refusal at fs here b bs ≡ v → step fs here b ≡ s → ((p : Place) → refusal (at + 1) p.0 p.1 bs ≡ Some e → Refuses (at + 1) p.0 p.1 bs e)
        → first_of v (follow (byte_refusal at here b) s (λ p. refusal (at + 1) p.0 p.1 bs)) ≡ Some e → Refuses at fs here (b ∷ bs) e
    go (Some x) s is on ih h = unread (is ∙ h)
    go None None is on ih h = subst (Refuses at fs here (b ∷ bs)) (same_Some (byte_refusal at here b) e h) (stuck on)
    go None (Some p) is on ih h = later p.0 p.1 on (ih p h)

pub least : (at : ℕ) (fs : List Level) (here : Here) (bs : List ℕ) (e f : ReadRefusal) → refusal at fs here bs ≡ Some e → Refuses at fs here bs f → place e ≤ place f
unfolding refusal
least at fs here [] e f h w = go (is_end fs here) h
  where
    go : (b : Bool) → cond b None (Some (end_refusal at here)) ≡ Some e → place e ≤ place f
    go true h = absurd (let w : None ≡ Some e = h in cc)
    go false h = let is = ap place (same_Some (end_refusal at here) e h) in let p = end_place at here in let q = from_here w in omega (arith, is, p, q)
least at fs here (b ∷ bs) e f h w = go (value_refusal at fs here b bs) (step fs here b) refl refl (λ p. least (at + 1) p.0 p.1 bs e f) h
  where
    go : (v : Option ReadRefusal) (s : Option Place) → value_refusal at fs here b bs ≡ v → step fs here b ≡ s → ((p : Place) → refusal (at + 1) p.0 p.1 bs ≡ Some e → Refuses (at + 1) p.0 p.1 bs f → place e ≤ place f)
        → first_of v (follow (byte_refusal at here b) s (λ p. refusal (at + 1) p.0 p.1 bs)) ≡ Some e → place e ≤ place f
    go (Some x) s is on ih h = let p = value_place at fs here b bs e (is ∙ h) in let q = from_here w in omega (arith, p, q)
    go None None is on ih h = let is = ap place (same_Some (byte_refusal at here b) e h) in let p = byte_place at here b in let q = from_here w in omega (arith, is, p, q)
    go None (Some p) is on ih h = ih p h (passes p is on w)

pub none_stands : (at : ℕ) (fs : List Level) (here : Here) (bs : List ℕ) (f : ReadRefusal) → refusal at fs here bs ≡ None → Refuses at fs here bs f → ⊥
unfolding refusal
none_stands at fs here [] f h (ended is) = let w : Some (end_refusal at here) ≡ None = sym (ap (λ b. cond b None (Some (end_refusal at here))) is) ∙ h in cc
none_stands at fs here (b ∷ bs) f h w = go (value_refusal at fs here b bs) (step fs here b) refl refl (λ p. none_stands (at + 1) p.0 p.1 bs f) h
  where
    go : (v : Option ReadRefusal) (s : Option Place) → value_refusal at fs here b bs ≡ v → step fs here b ≡ s → ((p : Place) → refusal (at + 1) p.0 p.1 bs ≡ None → Refuses (at + 1) p.0 p.1 bs f → ⊥)
        → first_of v (follow (byte_refusal at here b) s (λ p. refusal (at + 1) p.0 p.1 bs)) ≡ None → ⊥
    go (Some x) s is on ih h = let w : Some x ≡ None = h in cc
    go None None is on ih h = let w : Some (byte_refusal at here b) ≡ None = h in cc
    go None (Some p) is on ih h = ih p h (passes p is on w)

-- a value is refused otherwise than a text
value_kind : (at : ℕ) (fs : List Level) (here : Here) (b : ℕ) (bs : List ℕ) (e : ReadRefusal) → value_refusal at fs here b bs ≡ Some e → is_stop e ≡ false
unfolding value_refusal
value_kind at fs here b bs e h = go (takes_value here) (nat_eq b 91 || nat_eq b 123) (nat_lt (length fs) 128) (number_at (b ∷ bs)) h
  where
    at_some : (x : ReadRefusal) → Some x ≡ Some e → is_stop x ≡ is_stop e
    at_some x h = ap is_stop (same_Some x e h)

    fault : (v : Result Num NumFault) → fault_refusal at v ≡ Some e → is_stop e ≡ false
    fault (Ok v) h = absurd (let w : None ≡ Some e = h in cc)
    fault (Err f.Fraction) h = sym (at_some (r.Fraction at) h)
    fault (Err f.TooLarge) h = sym (at_some (r.TooLarge at) h)

    number : (t : Option (Token × List ℕ)) → number_refusal at t ≡ Some e → is_stop e ≡ false
    number None h = absurd (let w : None ≡ Some e = h in cc)
    number (Some t) h = fault (num_of (exact t.0)) h

    go : (t o l : Bool) (n : Option (Token × List ℕ)) → cond t (cond o (cond l None (Some (r.TooDeep at))) (number_refusal at n)) None ≡ Some e → is_stop e ≡ false
    go false o l n h = absurd (let w : None ≡ Some e = h in cc)
    go true false l n h = number n h
    go true true true n h = absurd (let w : None ≡ Some e = h in cc)
    go true true false n h = sym (at_some (r.TooDeep at) h)

-- how far bytes begin a text
pub longest : (at : ℕ) (fs : List Level) (here : Here) (bs : List ℕ) (e : ReadRefusal) → is_stop e ≡ true → refusal at fs here bs ≡ Some e → (k : ℕ) × (place e ≡ at + k) × IsLongest fs here bs k
unfolding refusal after
longest at fs here [] e stop h = go (is_end fs here) refl h
  where
    go : (b : Bool) → is_end fs here ≡ b → cond b None (Some (end_refusal at here)) ≡ Some e → (k : ℕ) × (place e ≡ at + k) × IsLongest fs here [] k
    go true is h = absurd (let w : None ≡ Some e = h in cc)
    go false is h =
        let same = ap place (same_Some (end_refusal at here) e h) in
        let p = end_place at here in
        (0, omega (arith, same, p), record { begins = refl; within = omega arith; next = λ lt. absurd (omega (arith, lt)); none = is })
longest at fs here (b ∷ bs) e stop h = go (value_refusal at fs here b bs) (step fs here b) refl refl (λ p. longest (at + 1) p.0 p.1 bs e stop) h
  where
    go : (v : Option ReadRefusal) (s : Option Place) → value_refusal at fs here b bs ≡ v → step fs here b ≡ s → ((p : Place) → refusal (at + 1) p.0 p.1 bs ≡ Some e → (k : ℕ) × (place e ≡ at + 1 + k) × IsLongest p.0 p.1 bs k)
        → first_of v (follow (byte_refusal at here b) s (λ p. refusal (at + 1) p.0 p.1 bs)) ≡ Some e → (k : ℕ) × (place e ≡ at + k) × IsLongest fs here (b ∷ bs) k
    go (Some x) s is on ih h = absurd (true≢false (sym stop ∙ value_kind at fs here b bs e (is ∙ h)))
    go None None is on ih h =
        let same = ap place (same_Some (byte_refusal at here b) e h) in
        let p = byte_place at here b in (
          0,
          omega (arith, same, p),
          record {
            begins = refl;
            within = omega arith;
            next = λ lt. ap (λ s. is_some (lead_on s (λ p. after p.0 p.1 []))) on;
            none = ap (λ s. ends (lead_on s (λ p. after p.0 p.1 bs))) on;
          },
        )
    go None (Some p) is on ih h =
        let (k, at_k, w) = ih p h in (
          suc k,
          omega (arith, at_k),
          record {
            begins = ap (λ s. is_some (lead_on s (λ p. after p.0 p.1 (take k bs)))) on ∙ w.begins;
            within = omega (arith, w.within);
            next = λ lt. ap (λ s. is_some (lead_on s (λ p. after p.0 p.1 (take (suc k) bs)))) on ∙ w.next (omega (arith, lt));
            none = ap (λ s. ends (lead_on s (λ p. after p.0 p.1 bs))) on ∙ w.none;
          },
        )

-- where nothing is refused the bytes are a text
pub no_refusal : (at : ℕ) (fs : List Level) (here : Here) (bs : List ℕ) → refusal at fs here bs ≡ None → ends (after fs here bs) ≡ true
unfolding refusal after
no_refusal at fs here [] h = go (is_end fs here) refl h
  where
    go : (b : Bool) → is_end fs here ≡ b → cond b None (Some (end_refusal at here)) ≡ None → is_end fs here ≡ true
    go true is h = is
    go false is h = absurd (let w : Some (end_refusal at here) ≡ None = h in cc)
no_refusal at fs here (b ∷ bs) h = go (value_refusal at fs here b bs) (step fs here b) refl (λ p. no_refusal (at + 1) p.0 p.1 bs) h
  where
    go : (v : Option ReadRefusal) (s : Option Place) → step fs here b ≡ s → ((p : Place) → refusal (at + 1) p.0 p.1 bs ≡ None → ends (after p.0 p.1 bs) ≡ true)
        → first_of v (follow (byte_refusal at here b) s (λ p. refusal (at + 1) p.0 p.1 bs)) ≡ None → ends (lead_on (step fs here b) (λ p. after p.0 p.1 bs)) ≡ true
    go (Some x) s on ih h = absurd (let w : Some x ≡ None = h in cc)
    go None None on ih h = absurd (let w : Some (byte_refusal at here b) ≡ None = h in cc)
    go None (Some p) on ih h = ap (λ s. ends (lead_on s (λ p. after p.0 p.1 bs))) on ∙ ih p h
