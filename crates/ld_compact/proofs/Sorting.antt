-- Texts in order: a list that std's sort gives is the one that insertion gives.
use Rattle.std.proofs.Common.{◌≡◌, ◌∙◌, refl, sym, ap, subst, ℕ, suc, ◌+◌, ◌≤◌, List, [], ◌∷◌, Bool, true, false, cond, arith, IsPermutation}
use native.Mathlib.Numerals.{unary_clauses}
use Rattle.std.specs.List.{sum_by}
use Rattle.std.specs.List.Sorted.{IsSorted}
use Rattle.std.specs.Str.{bytes_eq}
use Rattle.std.specs.Cmp.Lexicographic.{same_text, nat_list_cmp_total}
use Rattle.std.specs.Ordering.{is_lt, is_eq, match_ordering, ordering_reverse}
use Rattle.std.specs.declared.cmp.Ordering.{Ordering}
use Rattle.std.specs.declared.cmp.Ordering.TheVariants.{Less, Equal, Greater}
use Rattle.std.proofs.lemmas.Map.Text.{is_eq-slice_cmp}
use Rattle.std.proofs.lemmas.List.Sums.{sum_by-cons}
use Rattle.std.proofs.lemmas.List.Sorted.{sum_by-IsPermutation}
use Rattle.ld_tree.specs.Names.{name_cmp}
use Rattle.ld_rec.specs.Expansion.{put_in_order}
use Rattle.ld_compact.specs.Compaction.{in_order}

abbrev Text : Type 0
Text = List ℕ

-- ---- not after

abbrev is_at_most : Ordering → Bool
is_at_most o = match_ordering o true true false

abbrev le : Text → Text → Bool
le a b = is_at_most (name_cmp a b)

put_by : (text t : Text) (ts : List Text) → put_in_order text (t ∷ ts) ≡ cond (le text t) (text ∷ t ∷ ts) (t ∷ put_in_order text ts)
put_by text t ts =
    elim (name_cmp text t) as (λ o. match_ordering o (text ∷ t ∷ ts) (text ∷ t ∷ ts) (t ∷ put_in_order text ts) ≡ cond (is_at_most o) (text ∷ t ∷ ts) (t ∷ put_in_order text ts)) [
      | Less ↦ refl
      | Equal ↦ refl
      | Greater ↦ refl
    ]

flipped : (o : Ordering) → is_at_most o ≡ false → is_at_most (ordering_reverse o) ≡ true
flipped Less e = cc
flipped Equal e = refl
flipped Greater e = refl

le_total : (a b : Text) → le a b ≡ false → le b a ≡ true
le_total a b e = ap is_at_most (nat_list_cmp_total.antisymm b a) ∙ flipped (name_cmp a b) e

tied : (o : Ordering) → is_at_most o ≡ true → is_at_most (ordering_reverse o) ≡ true → o ≡ Equal
tied Less e f = cc
tied Equal e f = refl
tied Greater e f = cc

equal_same : (a b : Text) → name_cmp a b ≡ Equal → a ≡ b
equal_same a b e = same_text a b (sym (sym (is_eq-slice_cmp a b) ∙ ap is_eq e))

le_both : (a b : Text) → le a b ≡ true → le b a ≡ true → a ≡ b
le_both a b e f = equal_same a b (tied (name_cmp a b) e (sym (ap is_at_most (nat_list_cmp_total.antisymm b a)) ∙ f))

beyond : (o : Ordering) → is_at_most o ≡ false → ordering_reverse o ≡ Less
beyond Less e = cc
beyond Equal e = cc
beyond Greater e = refl

-- x is before b
before : (b x : Text) → le b x ≡ false → name_cmp x b ≡ Less
before b x e = nat_list_cmp_total.antisymm x b ∙ beyond (name_cmp b x) e

after_it : (a b : Text) → name_cmp a b ≡ Less → le b a ≡ false
after_it a b e = ap is_at_most (nat_list_cmp_total.antisymm b a ∙ ap ordering_reverse e)

less_by : (o : Ordering) (a x b : Text) → name_cmp a x ≡ o → is_at_most o ≡ true → name_cmp x b ≡ Less → name_cmp a b ≡ Less
less_by Less a x b is e f = nat_list_cmp_total.trans a x b is f
less_by Equal a x b is e f = nat_list_cmp_total.congr a x b is ∙ f
less_by Greater a x b is e f = cc

le_far : (a b x : Text) → le a x ≡ true → le b x ≡ false → le b a ≡ false
le_far a b x e f = after_it a b (less_by (name_cmp a x) a x b refl e (before b x f))

-- ---- two that are put in, in either turn

pair : (a b : Text) (rest : List Text) → cond (le a b) (a ∷ b ∷ rest) (b ∷ a ∷ rest) ≡ cond (le b a) (b ∷ a ∷ rest) (a ∷ b ∷ rest)
pair a b rest =
    elim (le a b) as (λ x. le a b ≡ x → cond x (a ∷ b ∷ rest) (b ∷ a ∷ rest) ≡ cond (le b a) (b ∷ a ∷ rest) (a ∷ b ∷ rest)) [
      | false ↦ λ e. sym (ap (λ (y : Bool). cond y (b ∷ a ∷ rest) (a ∷ b ∷ rest)) (le_total a b e))
      | true ↦ λ e.
          elim (le b a) as (λ y. le b a ≡ y → a ∷ b ∷ rest ≡ cond y (b ∷ a ∷ rest) (a ∷ b ∷ rest)) [
            | false ↦ λ f. refl
            | true ↦ λ f. ap (λ (t : Text). t ∷ b ∷ rest) (le_both a b e f) ∙ ap (λ (t : Text). b ∷ t ∷ rest) (sym (le_both a b e f))
          ] refl
    ] refl

either_turn : (a b : Text) (ts : List Text) → put_in_order a (put_in_order b ts) ≡ put_in_order b (put_in_order a ts)
either_turn a b [] = put_by a b [] ∙ pair a b [] ∙ sym (put_by b a [])
either_turn a b (x ∷ xs) =
    elim (le a x) as (λ p. le a x ≡ p → put_in_order a (put_in_order b (x ∷ xs)) ≡ put_in_order b (put_in_order a (x ∷ xs))) [
      | true ↦ λ e.
          elim (le b x) as (λ q. le b x ≡ q → put_in_order a (put_in_order b (x ∷ xs)) ≡ put_in_order b (put_in_order a (x ∷ xs))) [
            | true ↦ λ f.
                ap (put_in_order a) (at b true f) ∙ put_by a b (x ∷ xs) ∙ ap (λ l. cond (le a b) (a ∷ b ∷ x ∷ xs) (b ∷ l)) (at a true e)
                ∙ pair a b (x ∷ xs)
                ∙ sym (ap (put_in_order b) (at a true e) ∙ put_by b a (x ∷ xs) ∙ ap (λ l. cond (le b a) (b ∷ a ∷ x ∷ xs) (a ∷ l)) (at b true f))
            | false ↦ λ f. low a b e f
          ] refl
      | false ↦ λ e.
          elim (le b x) as (λ q. le b x ≡ q → put_in_order a (put_in_order b (x ∷ xs)) ≡ put_in_order b (put_in_order a (x ∷ xs))) [
            | true ↦ λ f. sym (low b a f e)
            | false ↦ λ f.
                ap (put_in_order a) (at b false f) ∙ put_by a x (put_in_order b xs) ∙ ap (λ p. cond p (a ∷ x ∷ put_in_order b xs) (x ∷ put_in_order a (put_in_order b xs))) e
                ∙ ap (λ l. x ∷ l) (either_turn a b xs)
                ∙ sym (ap (put_in_order b) (at a false e) ∙ put_by b x (put_in_order a xs) ∙ ap (λ p. cond p (b ∷ x ∷ put_in_order a xs) (x ∷ put_in_order b (put_in_order a xs))) f)
          ] refl
    ] refl
  where
    at : (t : Text) (p : Bool) → le t x ≡ p → put_in_order t (x ∷ xs) ≡ cond p (t ∷ x ∷ xs) (x ∷ put_in_order t xs)
    at t p e = put_by t x xs ∙ ap (λ q. cond q (t ∷ x ∷ xs) (x ∷ put_in_order t xs)) e

    -- the first stays before what stands there, and the second goes behind it
    low : (s t : Text) → le s x ≡ true → le t x ≡ false → put_in_order s (put_in_order t (x ∷ xs)) ≡ put_in_order t (put_in_order s (x ∷ xs))
    low s t e f =
        ap (put_in_order s) (at t false f) ∙ put_by s x (put_in_order t xs) ∙ ap (λ q. cond q (s ∷ x ∷ put_in_order t xs) (x ∷ put_in_order s (put_in_order t xs))) e
        ∙ sym (ap (put_in_order t) (at s true e) ∙ put_by t s (x ∷ xs) ∙ ap (λ q. cond q (t ∷ s ∷ x ∷ xs) (s ∷ put_in_order t (x ∷ xs))) (le_far s t x e f) ∙ ap (λ l. s ∷ l) (at t false f))

-- ---- how often each is there

abbrev one_of : Text → Text → ℕ
one_of a t = cond (bytes_eq a t) 1 0

abbrev Alike : List Text → List Text → Type 0
Alike xs ys = (f : Text → ℕ) → sum_by f ys ≡ sum_by f xs

-- a text that is there, and the others
record Found (x : Text) (ys : List Text) : Type 0 where
  others : List Text
  is : in_order ys ≡ put_in_order x (in_order others)
  rest : (f : Text → ℕ) → sum_by f ys ≡ f x + sum_by f others

found : (x : Text) (ys : List Text) → 1 ≤ sum_by (one_of x) ys → Found x ys
found x [] h = absurd (omega (arith, h))
found x (y ∷ ys) h =
    elim (bytes_eq x y) as (λ b. bytes_eq x y ≡ b → Found x (y ∷ ys)) [
      | true ↦ λ e. let same = same_text x y (sym e) in
          record { others = ys; is = ap (λ t. put_in_order t (in_order ys)) (sym same); rest = λ f. sum_by-cons f y ys ∙ ap (λ t. f t + sum_by f ys) (sym same) }
      | false ↦ λ e.
          let later = found x ys (subst (λ n. 1 ≤ n) (sum_by-cons (one_of x) y ys ∙ ap (λ b. cond b 1 0 + sum_by (one_of x) ys) e ∙ omega arith) h) in
          record {
            others = y ∷ later.others;
            is = ap (put_in_order y) later.is ∙ either_turn y x (in_order later.others);
            rest = λ f. let a = sum_by-cons f y ys in let b = later.rest f in let d = sum_by-cons f y later.others in omega (arith, a, b, d);
          }
    ] refl

self_eq : (x : Text) → bytes_eq x x ≡ true
self_eq x = sym (is_eq-slice_cmp x x) ∙ ap is_eq (self_cmp (name_cmp x x) (nat_list_cmp_total.antisymm x x))
  where
    self_cmp : (o : Ordering) → o ≡ ordering_reverse o → o ≡ Equal
    self_cmp Less e = cc
    self_cmp Equal e = refl
    self_cmp Greater e = cc

same_order : (xs ys : List Text) → Alike xs ys → in_order xs ≡ in_order ys
same_order [] [] h = refl
same_order [] (y ∷ ys) h = absurd (let a = h (λ _. 1) in let b = sum_by-cons (λ (_ : Text). 1) y ys in omega (arith, a, b))
same_order (x ∷ xs) ys h =
    let there : 1 ≤ sum_by (one_of x) ys =
    (let a = h (one_of x) in let b = sum_by-cons (one_of x) x xs in let d : one_of x x ≡ 1 = ap (λ b. cond b 1 0) (self_eq x) in omega (arith, a, b, d)) in
    let it = found x ys there in
    ap (put_in_order x) (same_order xs it.others (λ f. let a = h f in let b = sum_by-cons f x xs in let d = it.rest f in omega (arith, a, b, d))) ∙ sym it.is

-- ---- what is in order stays

abbrev Up : List Text → Type 0
Up xs = IsSorted name_cmp xs

not_less : (o : Ordering) → is_lt (ordering_reverse o) ≡ false → is_at_most o ≡ true
not_less Less e = refl
not_less Equal e = refl
not_less Greater e = cc

tail_up : (x : Text) (xs : List Text) → Up (x ∷ xs) → Up xs
tail_up x xs up k d low high =
    let h = up (suc k) d (omega arith) (omega arith) in
    simp unary_clauses (simp unary_clauses at h)

stays : (xs : List Text) → Up xs → in_order xs ≡ xs
stays [] up = refl
stays (x ∷ []) up = refl
stays (x ∷ y ∷ ys) up =
    ap (put_in_order x) (stays (y ∷ ys) (tail_up x (y ∷ ys) up))
    ∙ put_by x y ys ∙ ap (λ b. cond b (x ∷ y ∷ ys) (y ∷ put_in_order x ys)) (not_less (name_cmp x y) (sym (ap is_lt (nat_list_cmp_total.antisymm y x)) ∙ up 0 x (omega arith) (omega arith)))

-- a list in order that has the same texts
pub sorted_is : (texts sorted : List Text) → IsPermutation texts sorted → IsSorted name_cmp sorted → sorted ≡ in_order texts
sorted_is texts sorted moved up = sym (stays sorted up) ∙ sym (same_order texts sorted (λ f. sum_by-IsPermutation f texts sorted moved))
