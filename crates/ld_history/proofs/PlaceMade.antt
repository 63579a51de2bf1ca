-- An IRI that goes out makes a place for another one.
use Rattle.std.proofs.Common.{◌≡◌, ℕ, ◌+◌, List, [], ◌∷◌, ◌++◌, length, refl, sym, ap, ◌∙◌, arith, Option, Some, None, Bool, true, false, ◌&&◌, cond, inl, inr, eqb-true, eq-eqb, lt-ltb}
use Rattle.std.specs.Prelude.{is_some, ◌==◌, option_map}
use Rattle.std.specs.List.{find}
use Rattle.std.specs.Ordering.{is_eq}
use Rattle.std.specs.Cmp.Lexicographic.{same_text}
use Rattle.std.proofs.lemmas.Bool.{and_from, or_right, not_from_false, false_from_ne_true, not-true}
use Rattle.ld_tree.specs.Names.{name_cmp}
use Rattle.ld_history.specs.declared.limits.Limits.{Limits}
use Rattle.ld_history.specs.declared.event.Event.TheVariants as event
use Rattle.ld_history.specs.declared.session.Session.{Session}
use Rattle.ld_history.specs.declared.session.Last.TheVariants as last
use Rattle.ld_history.specs.declared.session.Stored.{Stored}
use Rattle.ld_history.specs.Store.{Store}
use Rattle.ld_history.specs.Words.{at_number, at_iri, is_some_and, same_iri, is_pinned, is_stored, is_led, places, archive_has_room, may_go, none_before, is_next_out}
use Rattle.ld_history.specs.Rules.{place_was_made, has_place, may_evict}
use Rattle.ld_history.specs.After.{after, turned, turn_found}
use Rattle.ld_history.specs.Steps.{plain, next_out}
use Rattle.ld_history.specs.ByTurns.{was_stored, lacks, may_lead}
use Rattle.ld_history.proofs.LawReads.{some_and, both}
use Rattle.ld_history.proofs.LawFlights.{iri_cases, take_iri_other}
use Rattle.ld_history.proofs.LawTurns.{set_iri_other, is_in}
use Rattle.ld_history.proofs.LawCounts.{length-take}
use Rattle.ld_history.proofs.LawCrew.{changed_same}

pub found_passes : {X : Type 0} (p : X → Bool) (xs : List X) (x : X) → find p xs ≡ Some x → p x ≡ true
found_passes p [] x h = cc
found_passes p (y ∷ ys) x h =
    elim (p y) as (λ b. p y ≡ b → cond b (Some y) (find p ys) ≡ Some x → p x ≡ true) [
      | true ↦ λ is one. let same : y ≡ x = cc in ap p (sym same) ∙ is
      | false ↦ λ is rest. found_passes p ys x rest
    ] refl h

first_by : {X : Type 0} (p : List ℕ → Bool) (o : Option (List ℕ × X)) → ((e : List ℕ × X) → o ≡ Some e → p e.0 ≡ true) → (out : List ℕ) → option_map (λ e. e.0) o ≡ Some out → p out ≡ true
first_by p None h out is = cc
first_by p (Some e) h out is = let same : e.0 ≡ out = cc in ap p (sym same) ∙ h e refl

pub next_is : (store : Store) (out : List ℕ) → next_out store ≡ Some out → is_next_out store out ≡ true
next_is store out is = first_by (is_next_out store) (find (λ e. is_next_out store e.0) store.stored) (λ e. found_passes (λ e. is_next_out store e.0) store.stored e) out is

pub turned_other : (turns : List (List ℕ × List ℕ)) (k : List ℕ) (w : ℕ) (q : List ℕ) → is_eq (name_cmp q k) ≡ false → at_iri (turned turns k w) q ≡ at_iri turns q
turned_other turns k w q n =
    elim (at_iri turns k) as (λ o. at_iri turns k ≡ o → at_iri (turn_found turns k w o) q ≡ at_iri turns q) [
      | None ↦ λ is. refl
      | Some t ↦ λ is. set_iri_other turns k (t ++ w ∷ []) t is q n
    ] refl

module _ (store : Store) (iri out : List ℕ) (stored : is_stored store out ≡ true) (absent : is_stored store iri ≡ false) where
  not_same : iri ≡ out → ⊥
  not_same e = let no : is_stored store out ≡ false = ap (is_stored store) (sym e) ∙ absent in cc

  pub apart : is_eq (name_cmp iri out) ≡ false
  apart = elim (iri_cases iri out) [ inl e ↦ absurd (not_same e) | inr n ↦ n ]

  pub differ : same_iri out iri ≡ false
  differ = false_from_ne_true _ (λ h. not_same (sym (same_text out iri (sym h))))

module _ (limits : Limits) (store : Store) (session : ℕ) (iri out : List ℕ) (s : Session)
    (is : at_number store.sessions session ≡ Some s) (pinned : is_pinned s.last ≡ true) (next : is_next_out store out ≡ true) where
  going : (x : Stored) × (at_iri store.stored out ≡ Some x) × (may_go store out && none_before store x.version ≡ true)
  going = some_and (λ (x : Stored). may_go store out && none_before store x.version) (at_iri store.stored out) next

  is_there : is_stored store out ≡ true
  is_there = ap is_some going.1

  pub may_go_out : may_evict store session out (store.version + 1) ≡ true
  may_go_out = and_from _ _ (and_from _ _ (and_from _ _ (ap (is_some_and _) is ∙ pinned) is_there) (both going.2).0) (eq-eqb (store.version + 1) (store.version + 1) refl)

  module _ (fewer : lacks limits store iri s ≡ true) (absent : is_stored store iri ≡ false) (free : is_led store iri ≡ false) (full : (places store == limits.contexts) ≡ true) (room : archive_has_room limits store ≡ true) where
    lacks_still : lacks limits (after store (plain (event.Evicted session out (store.version + 1)))) iri (record s { last = last.Evicted (store.version + 1) }) ≡ true
    lacks_still =
        let parts = both fewer in
        let first = both parts.0 in
        let same = turned_other store.turns out (store.version + 1) iri (apart store iri out is_there absent) in
        let old : was_stored store iri s.version ≡ false = not-true _ first.0 in
        let gone : is_some_and (is_in s.version) (at_iri (turned store.turns out (store.version + 1)) iri) ≡ false = ap (is_some_and (is_in s.version)) same ∙ old in
        and_from _ _ (and_from _ _ (not_from_false _ gone) first.1) parts.1

    place_made : place_was_made limits (after store (plain (event.Evicted session out (store.version + 1)))) session iri ≡ true
    place_made = and_from _ _ (and_from _ _ (and_from _ _ (eq-eqb session session refl) full) next) (not_from_false _ (differ store iri out is_there absent))

    place_had : has_place limits (after store (plain (event.Evicted session out (store.version + 1)))) iri (length store.flights + 1) ≡ true
    place_had =
        let fewer = length-take store.stored out going.0 going.1 in
        let all : places store ≡ limits.contexts = eqb-true (places store) limits.contexts full in
        let gone = ap is_some (take_iri_other store.stored out iri (apart store iri out is_there absent)) ∙ absent in
        and_from _ _ (and_from _ _ (and_from _ _ (and_from _ _ (not_from_false _ gone) (not_from_false _ free)) (lt-ltb _ _ (omega (arith, fewer, all)))) room) (eq-eqb (length store.flights + 1) (length store.flights + 1) refl)

    pub may_come_in : may_lead limits (after store (plain (event.Evicted session out (store.version + 1)))) session iri (length store.flights + 1) ≡ true
    may_come_in =
        ap (is_some_and _) (changed_same store.sessions session (λ (x : Session). record x { last = last.Evicted (store.version + 1) }) s is)
        ∙ and_from _ _ (and_from _ _ (or_right (is_pinned (last.Evicted (store.version + 1))) _ place_made) lacks_still) place_had
