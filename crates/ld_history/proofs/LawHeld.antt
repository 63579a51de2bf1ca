-- Who is the least holder of an IRI, and that the IRI of a TooMany is none that the request holds.
use Rattle.std.proofs.Common.{◌≡◌, ℕ, ◌≤◌, ◌<◌, List, [], ◌∷◌, refl, sym, ap, ◌∙◌, arith, Option, Some, None, Bool, true, false, cond, eq-eqb, nat_cmp, inl, inr}
use Rattle.std.specs.Prelude.{◌==◌}
use Rattle.std.specs.declared.cmp.Ordering.TheVariants.{Less, Equal, Greater}
use Rattle.std.specs.Ordering.{is_eq}
use Rattle.std.specs.Cmp.{nat_cmp_total}
use Rattle.std.specs.List.{find}
use Rattle.std.specs.List.Sorted.{IsStrictlySortedBy}
use Rattle.std.specs.Option.{option_map}
use Rattle.std.specs.Map.{keys_of}
use Rattle.std.specs.BTreeMap.{is_at}
use Rattle.std.proofs.lemmas.Bool.{cases_Bool, false_from_ne_true, not-true}
use Rattle.std.proofs.lemmas.Cmp.{ranked}
use Rattle.std.proofs.lemmas.Map.{lookup-none}
use Rattle.std.proofs.lemmas.Map.Entries.{none_below_head}
use Rattle.ld_history.specs.declared.limits.Limits.{Limits}
use Rattle.ld_history.specs.declared.event.Event.TheVariants as event
use Rattle.ld_history.specs.declared.event.How.TheVariants as how
use Rattle.ld_history.specs.declared.session.Session.{Session}
use Rattle.ld_history.specs.Words.{at_number, is_some_and, holds, least_holder}
use Rattle.ld_history.specs.Legal.{Entries, state, is_allowed, is_in_stock}
use Rattle.ld_history.specs.Laws.{IsOpenAs, IsHolder}
use Rattle.ld_history.specs.ByTurns.{Legal}
use Rattle.ld_history.proofs.IndexFirst.{least_holds}
use Rattle.ld_history.proofs.LawReads.{both}
use Rattle.ld_history.proofs.LawCrew.{Sessions}
use Rattle.ld_history.proofs.LawHolds.{pinned_holds}
use Rattle.ld_history.proofs.LawSound.{sound}

same_number : (a b : ℕ) → Some a ≡ Some b → a ≡ b
same_number a b e = cc

same_entry : (s t : Session) → Some s ≡ Some t → s ≡ t
same_entry s t e = cc

module _ (iri : List ℕ) where
  abbrev it_holds : ℕ × Session → Bool
  it_holds e = holds e.1 iri

  abbrev first_holder : Sessions → Option ℕ
  first_holder es = option_map (λ (e : ℕ × Session). e.0) (find it_holds es)

  -- the first holder in order is at most each
  first_least : (es : Sessions) → IsStrictlySortedBy nat_cmp (keys_of es) → (holder session : ℕ) (s : Session) → first_holder es ≡ Some holder → at_number es session ≡ Some s → holds s iri ≡ true → holder ≤ session
  unfolding IsStrictlySortedBy
  first_least [] sorted holder session s first is it = cc
  first_least (e ∷ es) sorted holder session s first is it =
      elim (nat_cmp session e.0) as (λ r. nat_cmp session e.0 ≡ r → holder ≤ session) [
        | Less ↦ λ less. absurd (let none : at_number (e ∷ es) session ≡ None = lookup-none (is_at (nat_cmp session)) (e ∷ es) (none_below_head nat_cmp_total session e es sorted less) in let bad : None ≡ Some s = sym none ∙ is in cc)
        | Equal ↦ λ equal.
            let here : e.1 ≡ s = same_entry e.1 s (sym (ap (λ r. cond (is_eq r) (Some e.1) (at_number es session)) equal) ∙ is) in
            let own : session ≡ e.0 = ranked session e.0 Equal (sym equal) in
            let passes : it_holds e ≡ true = ap (λ (t : Session). holds t iri) here ∙ it in
            let same : e.0 ≡ holder = same_number e.0 holder (sym (ap (λ b. option_map (λ (x : ℕ × Session). x.0) (cond b (Some e) (find it_holds es))) passes) ∙ first) in
            omega (arith, own, same)
        | Greater ↦ λ greater.
            let later : e.0 < session = ranked session e.0 Greater (sym greater) in
            let rest : at_number es session ≡ Some s = sym (ap (λ r. cond (is_eq r) (Some e.1) (at_number es session)) greater) ∙ is in
            elim (cases_Bool (it_holds e)) [
              | inl passes ↦
                  let same : e.0 ≡ holder = same_number e.0 holder (sym (ap (λ b. option_map (λ (x : ℕ × Session). x.0) (cond b (Some e) (find it_holds es))) passes) ∙ first) in omega (arith, later, same)
              | inr other ↦ first_least es sorted.1 holder session s (sym (ap (λ b. option_map (λ (x : ℕ × Session). x.0) (cond b (Some e) (find it_holds es))) other) ∙ first) rest it
            ]
      ] refl

  none_first : (es : Sessions) → first_holder es ≡ None → (session : ℕ) (s : Session) → at_number es session ≡ Some s → holds s iri ≡ false
  none_first [] none session s is = cc
  none_first (e ∷ es) none session s is = elim (cases_Bool (it_holds e)) [
    | inl passes ↦ absurd (let bad : Some e.0 ≡ None = sym (ap (λ b. option_map (λ (x : ℕ × Session). x.0) (cond b (Some e) (find it_holds es))) passes) ∙ none in cc)
    | inr other ↦
        let rest : first_holder es ≡ None = sym (ap (λ b. option_map (λ (x : ℕ × Session). x.0) (cond b (Some e) (find it_holds es))) other) ∙ none in
        elim (cases_Bool (is_eq (nat_cmp session e.0))) [
          | inl here ↦ let same : e.1 ≡ s = same_entry e.1 s (sym (ap (λ b. cond b (Some e.1) (at_number es session)) here) ∙ is) in ap (λ (t : Session). holds t iri) (sym same) ∙ other
          | inr there ↦ none_first es rest session s (sym (ap (λ b. cond b (Some e.1) (at_number es session)) there) ∙ is)
        ]
  ]

module _ (limits : Limits) (entries : Entries) (legal : Legal limits entries) (iri : List ℕ) where
  pub holder_holds : (holder : ℕ) → least_holder (state entries) iri ≡ Some holder → IsHolder (state entries) holder iri
  holder_holds holder is =
      let r = least_holds (state entries) (sound limits entries legal).crew.sorted holder iri (ap (is_some_and (λ h. h == holder)) is ∙ eq-eqb holder holder refl) in
      record { s = r.0; is = r.1; has = r.2 }

  pub holder_least : (holder session : ℕ) (s : Session) → least_holder (state entries) iri ≡ Some holder → IsOpenAs (state entries) session s → holds s iri ≡ true → holder ≤ session
  holder_least holder session s first is it = first_least iri (state entries).sessions (sound limits entries legal).crew.sorted holder session s first is it

  pub holder_none : (session : ℕ) (s : Session) → least_holder (state entries) iri ≡ None → IsOpenAs (state entries) session s → holds s iri ≡ true → ⊥
  holder_none session s none is it = let not_so : holds s iri ≡ false = none_first iri (state entries).sessions none session s is in cc

never : true ≡ false → ⊥
never e = cc

pub too_many_new : (limits : Limits) (entries : Entries) (session request : ℕ) (s : Session) (iri : List ℕ) → Legal limits entries → IsOpenAs (state entries) session s
    → is_allowed limits entries (record { event = event.Answered session request (how.TooMany iri); given = None }) ≡ true → holds s iri ≡ false
too_many_new limits entries session request s iri legal is ok =
    let rule = both (sym (ap (is_some_and _) is) ∙ ok) in
    let may = both rule.1 in
    let first = both may.0 in
    false_from_ne_true _ (λ it.
    let had : is_in_stock entries iri s.version ≡ true = pinned_holds limits entries session s iri legal is first.0 it in
    let lacked : is_in_stock entries iri s.version ≡ false = not-true _ may.1 in
    never (sym had ∙ lacked))
