-- Loads one after another.
use Rattle.std.proofs.Common.{◌∙◌, ℕ, ◌≤◌, List, [], ◌∷◌, ◌++◌, sym, ap, subst, append_assoc, arith}
use Rattle.ld_flight.specs.declared.given.Given as loader
use Rattle.ld_history.specs.declared.event.Event.{Event}
use Rattle.ld_history.specs.declared.event.Event.TheVariants as event
use Rattle.ld_own.specs.Loads.{Gained, Spans, after_fault}
use Rattle.ld_own.specs.Own.{Placed}

pub gained_on : (xs ys : List Placed) (a b : List loader.Given) → Gained xs a → Gained ys b → Gained (xs ++ ys) (a ++ b)
gained_on [] ys a b h k = subst (Gained ys) (sym (ap (λ l. l ++ b) h)) k
gained_on (p ∷ xs) ys a b h k = (h.0, h.1 ++ b, h.2, gained_on xs ys h.1 b h.3 k, ap (λ l. l ++ b) h.4 ∙ append_assoc h.0 h.1 b)

lower : (e : Event (List ℕ)) (low low' : ℕ) (rest : ℕ → Type 0) → ((n n' : ℕ) → n ≤ n' → rest n' → rest n) → low ≤ low' → after_fault e low' rest → after_fault e low rest
lower (event.Failed flight before after) low low' rest falls le h = (let from = h.0 in omega (arith, le, from), h.1, h.2)
lower _ low low' rest falls le h = falls low low' le h

pub spans_lower : (low low' high : ℕ) (mine : List Placed) → low ≤ low' → Spans low' mine high → Spans low mine high
spans_lower low low' high [] le h = omega (arith, le, h)
spans_lower low low' high (p ∷ mine) le h = lower p.entry.event low low' (λ count. Spans count mine high) (λ n n' le h. spans_lower n n' high mine le h) le h

onward : (e : Event (List ℕ)) (low : ℕ) (rest rest' : ℕ → Type 0) → ((n : ℕ) → rest n → rest' n) → after_fault e low rest → after_fault e low rest'
onward (event.Failed flight before after) low rest rest' on h = (h.0, h.1, on after h.2)
onward _ low rest rest' on h = on low h

pub spans_on : (low mid high : ℕ) (xs ys : List Placed) → Spans low xs mid → Spans mid ys high → Spans low (xs ++ ys) high
spans_on low mid high [] ys h k = spans_lower low mid high ys h k
spans_on low mid high (p ∷ xs) ys h k = onward p.entry.event low (λ count. Spans count xs mid) (λ count. Spans count (xs ++ ys) high) (λ n h. spans_on n mid high xs ys h k) h
