-- What numbers tell: a key keeps its number, and no two keys have one number.
use Rattle.std.proofs.Common.{◌≡◌, ◌∙◌, ◌+◌, ◌<◌, ◌≤◌, refl, sym, ap, subst, ℕ, suc, Bool, true, false, List, [], ◌∷◌, length, Option, None, Some, ◌⊎◌, inl, inr, arith}
use Rattle.std.specs.Prelude.{cond, unwrap_or}
use Rattle.std.specs.Cmp.{IsTotalOrder}
use Rattle.std.specs.Map.{lookup}
use Rattle.std.specs.BTreeMap.{insert_entry, is_at}
use Rattle.std.specs.Ordering.{is_eq, match_ordering, ordering_reverse}
use Rattle.std.specs.declared.cmp.Ordering.{Ordering}
use Rattle.std.specs.declared.cmp.Ordering.TheVariants.{Less, Equal, Greater}
use Rattle.ld_nodes.specs.Tables.{Table, number_of, met, met_each}

both : {X : Type 0} (b : Bool) (v w x : X) → cond b v x ≡ cond b v (cond b w x)
both true v w x = refl
both false v w x = refl

some_same : {X : Type 0} (x y : X) → Some x ≡ Some y → x ≡ y
some_same x y e = ap (λ (o : Option _). unwrap_or o x) e

module _ {K : Type 0} (cmp : K → K → Ordering) where
  abbrev pub found : K → Table K → Option ℕ
  found q table = lookup (is_at (cmp q)) table

  -- the table where the key has its number: each number is below the count, and stands for one key
  pub record Tells (table : Table K) : Type 0 where
    pub below : (q : K) (n : ℕ) → found q table ≡ Some n → n < length table
    pub apart : (a b : K) (n : ℕ) → found a table ≡ Some n → found b table ≡ Some n → cmp a b ≡ Equal

module _ {K : Type 0} {cmp : K → K → Ordering} (total : IsTotalOrder cmp) where
  -- what is equal compares alike
  alike : (q a b : K) → cmp a b ≡ Equal → cmp q a ≡ cmp q b
  alike q a b e = total.antisymm q a ∙ ap ordering_reverse (total.congr a b q e) ∙ sym (total.antisymm q b)

  turned : (a b : K) → cmp a b ≡ Equal → cmp b a ≡ Equal
  turned a b e = total.antisymm b a ∙ ap ordering_reverse e

  module _ (key : K) (v : ℕ) (q : K) where
    abbrev seen : Ordering → Table K → Option ℕ
    seen p es = cond (is_eq p) (Some v) (found cmp q es)

    past : (e : K × ℕ) (es : Table K) (p : Ordering) → cmp q key ≡ p → cmp key e.0 ≡ Greater → cond (is_eq (cmp q e.0)) (Some e.1) (seen p es) ≡ seen p (e ∷ es)
    past e es Less is order = refl
    past e es Equal is order = ap (λ o. cond (is_eq o) (Some e.1) (Some v)) (total.congr q key e.0 is ∙ order)
    past e es Greater is order = refl

    head : (e : K × ℕ) (es : Table K) (o : Ordering) → cmp key e.0 ≡ o → found cmp q (insert_entry cmp es key v) ≡ seen (cmp q key) es
        → found cmp q (match_ordering o ((key, v) ∷ e ∷ es) ((e.0, v) ∷ es) (e ∷ insert_entry cmp es key v)) ≡ seen (cmp q key) (e ∷ es)
    head e es Less is rest = refl
    head e es Equal is rest = both (is_eq (cmp q e.0)) (Some v) (Some e.1) (found cmp q es) ∙ ap (λ p. seen p (e ∷ es)) (sym (alike q key e.0 is))
    head e es Greater is rest = ap (λ (r : Option ℕ). cond (is_eq (cmp q e.0)) (Some e.1) r) rest ∙ past e es (cmp q key) refl is

    -- what a query finds where a key was put
    found_insert : (es : Table K) → found cmp q (insert_entry cmp es key v) ≡ seen (cmp q key) es
    found_insert [] = refl
    found_insert (e ∷ es) = head e es (cmp key e.0) refl (found_insert es)

  -- equal keys find the same
  finds_alike : (a b : K) → cmp a b ≡ Equal → (es : Table K) → found cmp a es ≡ found cmp b es
  finds_alike a b e [] = refl
  finds_alike a b e (x ∷ es) = ap (λ o. cond (is_eq o) (Some x.1) (found cmp a es)) (total.congr a b x.0 e) ∙ ap (λ (r : Option ℕ). cond (is_eq (cmp b x.0)) (Some x.1) r) (finds_alike a b e es)

  -- a key keeps its number
  pub stays : (table : Table K) (key q : K) (n : ℕ) → found cmp q table ≡ Some n → found cmp q (met cmp table key) ≡ Some n
  stays table key q n is =
      found_insert key (number_of cmp table key) q table
      ∙ elim (cmp q key) as (λ p. cmp q key ≡ p → seen key (number_of cmp table key) q p table ≡ Some n) [
        | Less ↦ λ p. is
        | Equal ↦ λ p. ap (λ (o : Option ℕ). Some (unwrap_or o (length table))) (sym (finds_alike q key p table) ∙ is)
        | Greater ↦ λ p. is
      ] refl

  -- ---- no two keys have one number

  longer_head : (key : K) (v : ℕ) (e : K × ℕ) (es : Table K) (o : Ordering) → cmp key e.0 ≡ o → length es ≤ length (insert_entry cmp es key v)
      → length (e ∷ es) ≤ length (match_ordering o ((key, v) ∷ e ∷ es) ((e.0, v) ∷ es) (e ∷ insert_entry cmp es key v))
  longer_head key v e es Less is h = omega arith
  longer_head key v e es Equal is h = omega arith
  longer_head key v e es Greater is h = omega (arith, h)

  longer : (key : K) (v : ℕ) (es : Table K) → length es ≤ length (insert_entry cmp es key v)
  longer key v [] = omega arith
  longer key v (e ∷ es) = longer_head key v e es (cmp key e.0) refl (longer key v es)

  one_more_head : (key : K) (v : ℕ) (e : K × ℕ) (es : Table K) (o : Ordering) → cmp key e.0 ≡ o → found cmp key (e ∷ es) ≡ None
      → (found cmp key es ≡ None → length (insert_entry cmp es key v) ≡ length es + 1)
      → length (match_ordering o ((key, v) ∷ e ∷ es) ((e.0, v) ∷ es) (e ∷ insert_entry cmp es key v)) ≡ length (e ∷ es) + 1
  one_more_head key v e es Less is none h = omega arith
  one_more_head key v e es Equal is none h =
      let there : Some e.1 ≡ None = ap (λ p. cond (is_eq p) (Some e.1) (found cmp key es)) (sym is) ∙ none in cc
  one_more_head key v e es Greater is none h =
      let rest = h (ap (λ p. cond (is_eq p) (Some e.1) (found cmp key es)) (sym is) ∙ none) in omega (arith, rest)

  one_more : (key : K) (v : ℕ) (es : Table K) → found cmp key es ≡ None → length (insert_entry cmp es key v) ≡ length es + 1
  one_more key v [] none = omega arith
  one_more key v (e ∷ es) none = one_more_head key v e es (cmp key e.0) refl none (one_more key v es)

  module _ (table : Table K) (tells : Tells cmp table) (key : K) where
    -- a query that finds its number where the key was put: it is the key, or it was found before
    abbrev Known : K → ℕ → Type 0
    Known q n = ((cmp q key ≡ Equal) × (n ≡ number_of cmp table key)) ⊎ (found cmp q table ≡ Some n)

    known_by : (q : K) (n : ℕ) (p : Ordering) → cmp q key ≡ p → seen key (number_of cmp table key) q p table ≡ Some n → Known q n
    known_by q n Less is e = inr e
    known_by q n Equal is e = inl (is, sym (some_same _ _ e))
    known_by q n Greater is e = inr e

    known : (q : K) (n : ℕ) → found cmp q (met cmp table key) ≡ Some n → Known q n
    known q n e = known_by q n (cmp q key) refl (sym (found_insert key (number_of cmp table key) q table) ∙ e)

    below_by : (o : Option ℕ) → found cmp key table ≡ o → unwrap_or o (length table) < length (met cmp table key)
    below_by None is = let more = one_more key (number_of cmp table key) table is in omega (arith, more)
    below_by (Some m) is = let less = tells.below key m is in let more = longer key (number_of cmp table key) table in omega (arith, less, more)

    below_of : (q : K) (n : ℕ) → Known q n → n < length (met cmp table key)
    below_of q n (inl k) = subst (λ m. m < length (met cmp table key)) (sym k.1) (below_by (found cmp key table) refl)
    below_of q n (inr e) = let less = tells.below q n e in let more = longer key (number_of cmp table key) table in omega (arith, less, more)

    mixed_by : (b : K) (n : ℕ) (o : Option ℕ) → found cmp key table ≡ o → n ≡ unwrap_or o (length table) → found cmp b table ≡ Some n → cmp key b ≡ Equal
    mixed_by b n None is e there = let less = tells.below b n there in absurd (omega (arith, less, e))
    mixed_by b n (Some m) is e there = tells.apart key b n (is ∙ ap (λ (k : ℕ). Some k) (sym e)) there

    apart_of : (a b : K) (n : ℕ) → Known a n → Known b n → cmp a b ≡ Equal
    apart_of a b n (inl k) (inl l) = total.congr a key b k.0 ∙ turned b key l.0
    apart_of a b n (inl k) (inr f) = total.congr a key b k.0 ∙ mixed_by b n (found cmp key table) refl k.1 f
    apart_of a b n (inr e) (inl l) = turned b a (total.congr b key a l.0 ∙ mixed_by a n (found cmp key table) refl l.1 e)
    apart_of a b n (inr e) (inr f) = tells.apart a b n e f

    pub tells_met : Tells cmp (met cmp table key)
    tells_met = record { below = λ q n e. below_of q n (known q n e); apart = λ a b n e f. apart_of a b n (known a n e) (known b n f) }

  pub tells_none : Tells cmp []
  tells_none = record { below = λ q n e. cc; apart = λ a b n e f. cc }

  tells_each : (keys : List K) (table : Table K) → Tells cmp table → Tells cmp (met_each cmp table keys)
  tells_each [] table tells = tells
  tells_each (key ∷ keys) table tells = tells_each keys (met cmp table key) (tells_met table tells key)

  -- of keys that are met one after the other, no two have one number
  pub told_apart : (keys : List K) (a b : K) (n : ℕ) → found cmp a (met_each cmp [] keys) ≡ Some n → found cmp b (met_each cmp [] keys) ≡ Some n → cmp a b ≡ Equal
  told_apart keys a b n = (tells_each keys [] tells_none).apart a b n
