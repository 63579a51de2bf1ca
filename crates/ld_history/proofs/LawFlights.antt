-- What stands at an IRI, a number or a flight's number after a change.
use Rattle.std.proofs.Common.{◌≡◌, ℕ, zero, suc, ◌+◌, List, [], ◌∷◌, ◌++◌, length, refl, sym, ap, ◌∙◌, arith, Some, None, Bool, true, false, ◌⊎◌, inl, inr, nat_cmp, subst}
use Rattle.std.specs.Prelude.{slice_get, slice_set}
use Rattle.std.specs.Ordering.{is_eq}
use Rattle.std.specs.Cmp.{nat_cmp_total, tied_itself}
use Rattle.std.specs.Cmp.Lexicographic.{nat_list_cmp_total, same_text}
use Rattle.std.specs.List.Sorted.{IsStrictlySortedBy}
use Rattle.std.specs.Map.{keys_of}
use Rattle.std.proofs.lemmas.Map.Text.{is_eq-slice_cmp}
use Rattle.std.proofs.lemmas.Bool.Decides.{nat_tests}
use Rattle.ld_tree.specs.Names.{name_cmp}
use Rattle.ld_history.specs.declared.session.Flight.{Flight}
use Rattle.ld_history.specs.declared.session.End.{End}
use Rattle.ld_history.specs.Words.{at_number, at_iri, flight_at}
use Rattle.ld_history.specs.After.{put_iri, take_iri, put_number, take_number, end_at, ended_as}
use Rattle.ld_history.proofs.LawTables.{put_same, put_other, take_same, take_other}

-- ---- IRIs
iri_tested : (q k : List ℕ) (b : Bool) → is_eq (name_cmp q k) ≡ b → (q ≡ k) ⊎ (is_eq (name_cmp q k) ≡ false)
iri_tested q k true h = inl (same_text q k (sym (sym (is_eq-slice_cmp q k) ∙ h)))
iri_tested q k false h = inr h

pub iri_cases : (q k : List ℕ) → (q ≡ k) ⊎ (is_eq (name_cmp q k) ≡ false)
iri_cases q k = iri_tested q k (is_eq (name_cmp q k)) refl

equal_numbers : (q k : ℕ) → is_eq (nat_cmp q k) ≡ true → q ≡ k
equal_numbers q k h = grind (arith, nat_tests)

number_tested : (q k : ℕ) (b : Bool) → is_eq (nat_cmp q k) ≡ b → (q ≡ k) ⊎ (is_eq (nat_cmp q k) ≡ false)
number_tested q k true h = inl (equal_numbers q k h)
number_tested q k false h = inr h

pub number_cases : (q k : ℕ) → (q ≡ k) ⊎ (is_eq (nat_cmp q k) ≡ false)
number_cases q k = number_tested q k (is_eq (nat_cmp q k)) refl

module _ {X : Type 0} where
  pub put_iri_same : (es : List (List ℕ × X)) (k : List ℕ) (v : X) → at_iri (put_iri es k v) k ≡ Some v
  put_iri_same es k v = put_same nat_list_cmp_total k v es

  pub put_iri_other : (es : List (List ℕ × X)) (k : List ℕ) (v : X) (q : List ℕ) → is_eq (name_cmp q k) ≡ false → at_iri (put_iri es k v) q ≡ at_iri es q
  put_iri_other es k v q n = put_other nat_list_cmp_total k v q n es

  pub take_iri_same : (es : List (List ℕ × X)) (k : List ℕ) → IsStrictlySortedBy name_cmp (keys_of es) → at_iri (take_iri es k) k ≡ None
  take_iri_same es k s = take_same nat_list_cmp_total k es s

  pub take_iri_other : (es : List (List ℕ × X)) (k q : List ℕ) → is_eq (name_cmp q k) ≡ false → at_iri (take_iri es k) q ≡ at_iri es q
  take_iri_other es k q n = take_other nat_list_cmp_total k q n es

  pub put_number_same : (es : List (ℕ × X)) (k : ℕ) (v : X) → at_number (put_number es k v) k ≡ Some v
  put_number_same es k v = put_same nat_cmp_total k v es

  pub put_number_other : (es : List (ℕ × X)) (k : ℕ) (v : X) (q : ℕ) → is_eq (nat_cmp q k) ≡ false → at_number (put_number es k v) q ≡ at_number es q
  put_number_other es k v q n = put_other nat_cmp_total k v q n es

  pub take_number_same : (es : List (ℕ × X)) (k : ℕ) → IsStrictlySortedBy nat_cmp (keys_of es) → at_number (take_number es k) k ≡ None
  take_number_same es k s = take_same nat_cmp_total k es s

  pub take_number_other : (es : List (ℕ × X)) (k q : ℕ) → is_eq (nat_cmp q k) ≡ false → at_number (take_number es k) q ≡ at_number es q
  take_number_other es k q n = take_other nat_cmp_total k q n es

  -- ---- places
  got_more : (xs ys : List X) (i : ℕ) (x : X) → slice_get xs i ≡ Some x → slice_get (xs ++ ys) i ≡ Some x
  got_more [] ys i x h = cc
  got_more (a ∷ xs) ys zero x h = h
  got_more (a ∷ xs) ys (suc i) x h = got_more xs ys i x h

  got_last : (xs : List X) (y : X) → slice_get (xs ++ y ∷ []) (length xs) ≡ Some y
  got_last [] y = refl
  got_last (x ∷ xs) y = got_last xs y

  got_cases : (xs : List X) (y : X) (i : ℕ) (x : X) → slice_get (xs ++ y ∷ []) i ≡ Some x → (slice_get xs i ≡ Some x) ⊎ ((i ≡ length xs) × (y ≡ x))
  got_cases [] y zero x h = inr (refl, (cc))
  got_cases [] y (suc i) x h = cc
  got_cases (a ∷ xs) y zero x h = inl h
  got_cases (a ∷ xs) y (suc i) x h = elim (got_cases xs y i x h) [ inl old ↦ inl old | inr new ↦ inr (ap suc new.0, new.1) ]

  got_set_same : (xs : List X) (i : ℕ) (y x : X) → slice_get xs i ≡ Some x → slice_get (slice_set xs i y) i ≡ Some y
  got_set_same [] i y x h = cc
  got_set_same (a ∷ xs) zero y x h = refl
  got_set_same (a ∷ xs) (suc i) y x h = got_set_same xs i y x h

  got_set_other : (xs : List X) (i j : ℕ) (y : X) → (j ≡ i → ⊥) → slice_get (slice_set xs i y) j ≡ slice_get xs j
  got_set_other [] i j y n = refl
  got_set_other (a ∷ xs) zero zero y n = absurd (n refl)
  got_set_other (a ∷ xs) zero (suc j) y n = refl
  got_set_other (a ∷ xs) (suc i) zero y n = refl
  got_set_other (a ∷ xs) (suc i) (suc j) y n = got_set_other xs i j y (λ e. n (ap suc e))

-- ---- flights
pub flight_more : (fs gs : List Flight) (n : ℕ) (f : Flight) → flight_at fs n ≡ Some f → flight_at (fs ++ gs) n ≡ Some f
flight_more fs gs zero f h = cc
flight_more fs gs (suc n) f h = got_more fs gs n f h

pub flight_last : (fs : List Flight) (g : Flight) (n : ℕ) → n ≡ length fs + 1 → flight_at (fs ++ g ∷ []) n ≡ Some g
flight_last fs g zero h = absurd (omega arith)
flight_last fs g (suc n) h = let e : n ≡ length fs = omega arith in subst (λ k. slice_get (fs ++ g ∷ []) k ≡ Some g) (sym e) (got_last fs g)

pub flight_cases : (fs : List Flight) (g : Flight) (n : ℕ) (f : Flight) → flight_at (fs ++ g ∷ []) n ≡ Some f → (flight_at fs n ≡ Some f) ⊎ ((n ≡ length fs + 1) × (g ≡ f))
flight_cases fs g zero f h = cc
flight_cases fs g (suc n) f h = elim (got_cases fs g n f h) [ inl old ↦ inl old | inr new ↦ inr (omega (arith, new.0), new.1) ]

pub flight_ended : (fs : List Flight) (n : ℕ) (how : End) (f : Flight) → flight_at fs n ≡ Some f → flight_at (ended_as fs n how) n ≡ Some (record f { end = how })
flight_ended fs zero how f h = cc
flight_ended fs (suc n) how f h = ap (λ o. slice_get (end_at fs n how o) n) h ∙ got_set_same fs n (record f { end = how }) f h

pub flight_kept : (fs : List Flight) (n : ℕ) (how : End) (m : ℕ) → (m ≡ n → ⊥) → flight_at (ended_as fs n how) m ≡ flight_at fs m
flight_kept fs zero how m h = refl
flight_kept fs (suc n) how zero h = refl
flight_kept fs (suc n) how (suc m) h =
    elim (slice_get fs n) as (λ o. slice_get (end_at fs n how o) m ≡ slice_get fs m) [
      | None ↦ refl
      | Some f ↦ got_set_other fs n m (record f { end = how }) (λ e. h (ap suc e))
    ]

pub apart_iris : (q k : List ℕ) → is_eq (name_cmp q k) ≡ false → q ≡ k → ⊥
apart_iris q k n e = let same : is_eq (name_cmp q k) ≡ true = ap (λ r. is_eq (name_cmp r k)) e ∙ ap is_eq (tied_itself nat_list_cmp_total k) in cc

pub apart_numbers : (q k : ℕ) → is_eq (nat_cmp q k) ≡ false → q ≡ k → ⊥
apart_numbers q k n e = let same : is_eq (nat_cmp q k) ≡ true = ap (λ r. is_eq (nat_cmp r k)) e ∙ ap is_eq (tied_itself nat_cmp_total k) in cc
