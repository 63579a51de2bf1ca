-- A session that is the least holder of a stored IRI holds it itself.
use Rattle.std.proofs.Common.{◌≡◌, ℕ, zero, suc, List, [], ◌∷◌, refl, sym, ap, ◌∙◌, Option, Some, None, Bool, true, false, cond, inl, inr, ◌&&◌, ◌||◌, nat_cmp, eqb-true}
use Rattle.std.specs.Prelude.{slice_get, ◌==◌}
use Rattle.std.specs.List.{list_any, find}
use Rattle.std.specs.List.Sorted.{IsStrictlySortedBy}
use Rattle.std.specs.Option.{option_map}
use Rattle.std.specs.Ordering.{is_eq}
use Rattle.std.specs.Cmp.{nat_cmp_total, eq_by_cmp_equiv, tied_itself}
use Rattle.std.specs.Cmp.Lexicographic.{nat_list_cmp_total, same_text}
use Rattle.std.specs.Map.{keys_of}
use Rattle.std.specs.BTreeMap.{is_at}
use Rattle.std.proofs.lemmas.Bool.{cases_Bool, or_right}
use Rattle.std.proofs.lemmas.Map.Made.{is_some-lookup}
use Rattle.std.proofs.lemmas.Map.Entries.{lookup_from_place}
use Rattle.std.proofs.lemmas.Map.Keys.{IsDistinct-from_sorted}
use Rattle.ld_tree.specs.Names.{name_cmp}
use Rattle.ld_history.specs.declared.session.Session.{Session}
use Rattle.ld_history.specs.Store.{Store}
use Rattle.ld_history.specs.Words.{at_number, is_some_and, is_stored, holds, same_iri}
use Rattle.ld_history.specs.Rules.{is_least_holder, holds_first}
use Rattle.ld_history.proofs.LawFlights.{iri_cases}
use Rattle.ld_history.proofs.LawReads.{both}
use Rattle.ld_history.proofs.LawSums.{place_of}
use Rattle.ld_history.proofs.LawCrew.{same_session}

pub any_from : {X : Type 0} (p : X → Bool) (xs : List X) (i : ℕ) (x : X) → slice_get xs i ≡ Some x → p x ≡ true → list_any p xs ≡ true
any_from p [] i x is passes = cc
any_from p (y ∷ xs) zero x is passes = let one : y ≡ x = cc in ap (λ b. b || list_any p xs) (ap p one ∙ passes)
any_from p (y ∷ xs) (suc i) x is passes = or_right _ _ (any_from p xs i x is passes)

pub find_some : {X : Type 0} (p : X → Bool) (xs : List X) (e : X) → find p xs ≡ Some e → (i : ℕ) × (slice_get xs i ≡ Some e) × (p e ≡ true)
find_some p [] e is = cc
find_some p (x ∷ xs) e is = elim (cases_Bool (p x)) [
  | inl here ↦ let one : Some x ≡ Some e = sym (ap (λ b. cond b (Some x) (find p xs)) here) ∙ is in let same : x ≡ e = cc in (0, one, ap p (sym same) ∙ here)
  | inr other ↦ let r = find_some p xs e (sym (ap (λ b. cond b (Some x) (find p xs)) other) ∙ is) in (suc r.0, r.1, r.2)
]

module _ (store : Store) (sorted : IsStrictlySortedBy nat_cmp (keys_of store.sessions)) (session : ℕ) where
  -- the least holder of an IRI holds it
  pub least_holds : (iri : List ℕ) → is_least_holder store session iri ≡ true → (s : Session) × (at_number store.sessions session ≡ Some s) × (holds s iri ≡ true)
  least_holds iri least = found (find (λ e. holds e.1 iri) store.sessions) refl least
    where
      found : (o : Option (ℕ × Session)) → find (λ e. holds e.1 iri) store.sessions ≡ o → is_some_and (λ holder. holder == session) (option_map (λ (e : ℕ × Session). e.0) o) ≡ true
          → (s : Session) × (at_number store.sessions session ≡ Some s) × (holds s iri ≡ true)
      found None is least = cc
      found (Some e) is least =
          let r = find_some (λ (e : ℕ × Session). holds e.1 iri) store.sessions e is in
          let at : at_number store.sessions e.0 ≡ Some e.1 = lookup_from_place (eq_by_cmp_equiv nat_cmp_total) store.sessions r.0 e.0 e.1 (IsDistinct-from_sorted nat_cmp (keys_of store.sessions) sorted) r.1 in
          (e.1, sym (ap (at_number store.sessions) (eqb-true e.0 session least)) ∙ at, r.2)

  stored_key : (iri : List ℕ) (i : ℕ) → slice_get (keys_of store.stored) i ≡ Some iri → is_stored store iri ≡ true
  stored_key iri i is = is_some-lookup (is_at (name_cmp iri)) store.stored ∙ any_from (is_at (name_cmp iri)) (keys_of store.stored) i iri is (ap is_eq (tied_itself nat_list_cmp_total iri))

  key_of : (iri : List ℕ) → is_stored store iri ≡ true → (i : ℕ) × (slice_get (keys_of store.stored) i ≡ Some iri)
  key_of iri stored =
      let r = place_of (is_at (name_cmp iri)) (keys_of store.stored) (sym (is_some-lookup (is_at (name_cmp iri)) store.stored) ∙ stored) in
      elim (iri_cases iri r.1) [
        | inl same ↦ (r.0, r.2 ∙ ap Some (sym same))
        | inr apart ↦ absurd (let bad : true ≡ false = sym r.3 ∙ apart in cc)
      ]

  own_first : (s : Session) → at_number store.sessions session ≡ Some s → holds_first store session ≡ true → list_any (λ iri. is_stored store iri && is_least_holder store session iri) s.held ≡ true
  own_first s is any =
      let r = place_of (λ iri. is_least_holder store session iri) (keys_of store.stored) any in
      let a = least_holds r.1 r.3 in
      let same : a.0 ≡ s = same_session a.0 s (sym a.1 ∙ is) in
      let held : holds s r.1 ≡ true = ap (λ (x : Session). holds x r.1) (sym same) ∙ a.2 in
      let h = place_of (λ k. same_iri k r.1) s.held held in
      let one : h.1 ≡ r.1 = same_text h.1 r.1 (sym h.3) in
      any_from (λ iri. is_stored store iri && is_least_holder store session iri) s.held h.0 h.1 h.2
      (ap (λ iri. is_stored store iri && is_least_holder store session iri) one ∙ ap (λ b. b && is_least_holder store session r.1) (stored_key r.1 r.0 r.2) ∙ r.3)

  first_owns : (s : Session) → list_any (λ iri. is_stored store iri && is_least_holder store session iri) s.held ≡ true → holds_first store session ≡ true
  first_owns s any =
      let h = place_of (λ iri. is_stored store iri && is_least_holder store session iri) s.held any in
      let b = both h.3 in
      let k = key_of h.1 b.0 in
      any_from (λ iri. is_least_holder store session iri) (keys_of store.stored) k.0 h.1 k.1 b.1

  pub first_of : (s : Session) → at_number store.sessions session ≡ Some s → list_any (λ iri. is_stored store iri && is_least_holder store session iri) s.held ≡ holds_first store session
  first_of s is = elim (cases_Bool (holds_first store session)) [
    | inl any ↦ own_first s is any ∙ sym any
    | inr none ↦ elim (cases_Bool (list_any (λ iri. is_stored store iri && is_least_holder store session iri) s.held)) [
      | inl some ↦ absurd (let bad : true ≡ false = sym (first_owns s some) ∙ none in cc)
      | inr nothing ↦ nothing ∙ sym none
    ]
  ]

  pub none_of : at_number store.sessions session ≡ None → false ≡ holds_first store session
  none_of none = elim (cases_Bool (holds_first store session)) [
    | inl any ↦
        let r = place_of (λ iri. is_least_holder store session iri) (keys_of store.stored) any in
        let a = least_holds r.1 r.3 in
        absurd (let bad : None ≡ Some a.0 = sym none ∙ a.1 in cc)
    | inr nothing ↦ sym nothing
  ]
