-- Whether an IRI is held is as it was, where its holders are.
use Rattle.std.proofs.Common.{◌≡◌, ℕ, List, [], ◌∷◌, refl, sym, ap, ◌∙◌, Option, Some, None, Bool, true, false, inl, inr, nat_cmp, is_some, ◌||◌}
use Rattle.std.specs.BTreeSet.{contains}
use Rattle.std.proofs.lemmas.Bool.{cases_Bool, false_from_ne_true}
use Rattle.std.specs.Cmp.Lexicographic.{nat_list_eq_equiv}
use Rattle.ld_history.specs.Words.{at_iri, is_some_and, same_iri}
use Rattle.ld_history.specs.Holders.{Holders, held_by, AreFilled, IsMarked, IsCleared, IsSame}
use Rattle.ld_history.specs.Order.{IsHeldAlike, is_among}
use Rattle.ld_history.proofs.LawFlights.{number_cases, apart_numbers}
use Rattle.ld_history.proofs.IndexHolders.{Set, some_member}

some_set : (o : Option Set) (n : ℕ) → is_some_and (λ set. contains nat_cmp set n) o ≡ true → is_some o ≡ true
some_set None n h = cc
some_set (Some set) n h = refl

still_held : (x y : Holders) → AreFilled x → (q : List ℕ) → ((n : ℕ) → held_by y q n ≡ held_by x q n) → (o : Option Set) → at_iri x q ≡ o → is_some o ≡ true → is_some (at_iri y q) ≡ true
still_held x y filled q each None is some = cc
still_held x y filled q each (Some set) is some =
    let m = some_member set.keys (filled q set is) in
    some_set (at_iri y q) m.0 (each m.0 ∙ ap (is_some_and (λ set. contains nat_cmp set m.0)) is ∙ m.1)

alike_at : (x y : Holders) → AreFilled x → AreFilled y → (q : List ℕ) → ((n : ℕ) → held_by y q n ≡ held_by x q n) → is_some (at_iri y q) ≡ is_some (at_iri x q)
alike_at x y filled filled' q each = elim (cases_Bool (is_some (at_iri x q))) [
  | inl here ↦ still_held x y filled q each (at_iri x q) refl here ∙ sym here
  | inr none ↦ false_from_ne_true (is_some (at_iri y q)) (λ some. let bad : true ≡ false = sym (still_held y x filled' q (λ n. sym (each n)) (at_iri y q) refl some) ∙ none in cc) ∙ sym none
]

apart : (iri q : List ℕ) → is_among (iri ∷ []) q ≡ false → q ≡ iri → ⊥
apart iri q none same =
    let here : same_iri iri q ≡ true = ap (same_iri iri) same ∙ nat_list_eq_equiv.refl iri in
    let bad : true ≡ false = sym (ap (λ b. b || false) here) ∙ none in cc

module _ (before after : Holders) (filled : AreFilled before) (filled' : AreFilled after) where
  pub alike_same : (but : List (List ℕ)) → IsSame before after → IsHeldAlike but before after
  alike_same but same = record { each = λ q none. alike_at before after filled filled' q (same q) }

  pub alike_marked : (iri : List ℕ) (session : ℕ) (listed : Bool) → IsMarked before after iri session listed → IsHeldAlike (iri ∷ []) before after
  alike_marked iri session listed mark = record { each = λ q none. alike_at before after filled filled' q (λ n. mark.there q n (λ e _. apart iri q none e)) }

  pub alike_again : (middle : Holders) (iri : List ℕ) (session : ℕ) (first second : Bool) → IsMarked before middle iri session first → IsMarked middle after iri session second → IsHeldAlike (iri ∷ []) before after
  alike_again middle iri session first second mark back = record {
    each = λ q none. alike_at before after filled filled' q (λ n. back.there q n (λ e _. apart iri q none e) ∙ mark.there q n (λ e _. apart iri q none e));
  }

  pub alike_cleared : (held : List (List ℕ)) (session : ℕ) → ((q : List ℕ) → held_by before q session ≡ is_among held q) → IsCleared before after session → IsHeldAlike held before after
  alike_cleared held session had clear = record {
    each = λ q none. alike_at before after filled filled' q (λ n. elim (number_cases n session) [
      | inl same ↦ ap (held_by after q) same ∙ clear.here q ∙ sym (ap (held_by before q) same ∙ had q ∙ none)
      | inr a ↦ clear.there q n (apart_numbers n session a)
    ]);
  }
