-- Where an eviction is a step, the rules allow its entries in turn.
use Rattle.std.proofs.Common.{◌≡◌, ℕ, ◌+◌, List, [], ◌∷◌, refl, sym, ap, ◌∙◌, Option, Some, None, Bool, true, false, not, ◌&&◌, cond, inl, inr, eq-eqb}
use Rattle.std.specs.Prelude.{is_some, ◌==◌, ◌||◌, if◌then◌else◌, option_map}
use Rattle.std.specs.List.{find, list_any}
use Rattle.std.specs.Map.{keys_of, values_of}
use Rattle.std.proofs.lemmas.Bool.{and_from, or_left, or_right, not_from_false}
use Rattle.ld_history.specs.declared.limits.Limits.{Limits}
use Rattle.ld_history.specs.declared.event.Event.TheVariants as event
use Rattle.ld_history.specs.declared.event.How.TheVariants as how
use Rattle.ld_history.specs.declared.answers.EvictAnswer.TheVariants as evict_answer
use Rattle.ld_history.specs.declared.session.Session.{Session}
use Rattle.ld_history.specs.declared.session.Last.TheVariants as last
use Rattle.ld_history.specs.declared.session.Flight.{Flight}
use Rattle.ld_history.specs.declared.session.Flying.{Flying}
use Rattle.ld_history.specs.declared.session.Kind.TheVariants as kind
use Rattle.ld_history.specs.Words.{at_number, at_iri, is_some_and, is_pinned, is_lead, is_under_way, is_stored, is_held, is_revised, holds, least_holder}
use Rattle.ld_history.specs.Rules.{is_least_holder, may_evict}
use Rattle.ld_history.specs.After.{after}
use Rattle.ld_history.specs.Legal.{state, Entries}
use Rattle.ld_history.specs.ByTurns.{may_answer, may_say, Legal}
use Rattle.ld_history.specs.Steps.{plain, ending, where_, evicting_stored, evicting_unheld, evicting_unrevised, of_found}
use Rattle.ld_history.specs.Plans.{AllowsStep, evict_found}
use Rattle.ld_history.proofs.LawSound.{sound}
use Rattle.ld_history.proofs.LawFlights.{iri_cases}
use Rattle.ld_history.proofs.LawCrew.{changed_same}
use Rattle.ld_history.proofs.Pinned.{pinned_leads_nothing, pinned_may_answer}

-- what passes at a key that is there passes somewhere
among_keys : {X : Type 0} (p : List ℕ → Bool) (es : List (List ℕ × X)) (k : List ℕ) → is_some (at_iri es k) ≡ true → p k ≡ true → list_any p (keys_of es) ≡ true
among_keys p [] k there passes = cc
among_keys p (e ∷ es) k there passes =
    elim (iri_cases k e.0) [
      | inl same ↦ or_left _ _ (ap p (sym same) ∙ passes)
      | inr n ↦ or_right _ _ (among_keys p es k (sym (ap (λ b. is_some (cond b (Some e.1) (at_iri es k))) n) ∙ there) passes)
    ]

-- an IRI that no session is the least to hold is not held
none_holds : (sessions : List (ℕ × Session)) (iri : List ℕ) → option_map (λ (e : ℕ × Session). e.0) (find (λ e. holds e.1 iri) sessions) ≡ None → list_any (λ s. holds s iri) (values_of sessions) ≡ false
none_holds [] iri none = refl
none_holds (e ∷ es) iri none =
    elim (holds e.1 iri) as (λ b. option_map (λ (e : ℕ × Session). e.0) (cond b (Some e) (find (λ e. holds e.1 iri) es)) ≡ None → (b || list_any (λ s. holds s iri) (values_of es)) ≡ false) [
      | true ↦ λ some. cc
      | false ↦ λ rest. none_holds es iri rest
    ] none

module _ (limits : Limits) (entries : Entries) (legal : Legal limits entries) (session : ℕ) (iri : List ℕ) (s : Session)
    (is : at_number (state entries).sessions session ≡ Some s) (pinned : is_pinned s.last ≡ true) where
  module _ (stored : is_stored (state entries) iri ≡ true) where
    held_by : (holder : ℕ) → least_holder (state entries) iri ≡ Some holder → may_say limits (state entries) s (how.Held holder) ≡ true
    held_by holder least =
        let first : is_least_holder (state entries) holder iri ≡ true = ap (is_some_and (λ (n : ℕ). n == holder)) least ∙ eq-eqb holder holder refl in
        and_from _ _ pinned (among_keys (is_least_holder (state entries) holder) (state entries).stored iri stored first)

    revised_by : (revision : Flying) → at_iri (state entries).revisions iri ≡ Some revision → may_say limits (state entries) s (how.Revising revision.flight) ≡ true
    revised_by revision there =
        and_from _ _ pinned (ap (is_some_and (λ (f : Flight). is_under_way f.end && not (is_lead f.kind))) ((sound limits entries legal).air.flights.listed kind.Revise iri revision there))

    module _ (unheld : is_held (state entries) iri ≡ false) (unrevised : is_revised (state entries) iri ≡ false) where
      goes : may_evict (state entries) session iri ((state entries).version + 1) ≡ true
      goes = and_from _ _ (and_from _ _ (and_from _ _ (ap (is_some_and _) is ∙ pinned) stored) (and_from _ _ (not_from_false _ unheld) (not_from_false _ unrevised)))
          (eq-eqb ((state entries).version + 1) ((state entries).version + 1) refl)

      told : may_answer limits (after (state entries) (plain (event.Evicted session iri ((state entries).version + 1)))) session s.request (how.Evicted ((state entries).version + 1)) ≡ true
      told =
          ap (is_some_and _) (changed_same (state entries).sessions session (λ (x : Session). record x { last = last.Evicted ((state entries).version + 1) }) s is)
          ∙ and_from _ _ (and_from _ _ (eq-eqb s.request s.request refl) (not_from_false _ (pinned_leads_nothing limits entries session s legal is pinned)))
          (eq-eqb ((state entries).version + 1) ((state entries).version + 1) refl)

    unrevised_allowed : is_held (state entries) iri ≡ false → (o : Option Flying) → at_iri (state entries).revisions iri ≡ o → AllowsStep limits (state entries) (Some (evicting_unrevised (state entries) session iri s o))
    unrevised_allowed unheld None none = (goes unheld (ap is_some none), (told unheld (ap is_some none), tt))
    unrevised_allowed unheld (Some revision) there = (pinned_may_answer limits entries session s legal is pinned (how.Revising revision.flight) (revised_by revision there), tt)

    unheld_allowed : (o : Option ℕ) → least_holder (state entries) iri ≡ o → AllowsStep limits (state entries) (Some (evicting_unheld (state entries) session iri s o))
    unheld_allowed None none = unrevised_allowed (none_holds (state entries).sessions iri none) (at_iri (state entries).revisions iri) refl
    unheld_allowed (Some holder) least = (pinned_may_answer limits entries session s legal is pinned (how.Held holder) (held_by holder least), tt)

  stored_allowed : AllowsStep limits (state entries) (Some (evicting_stored (state entries) session iri s))
  stored_allowed =
      elim (is_stored (state entries) iri) as (λ b. is_stored (state entries) iri ≡ b → AllowsStep limits (state entries)
      (Some (if b then evicting_unheld (state entries) session iri s (least_holder (state entries) iri) else ending session s (evict_answer.NotStored (state entries).version) (how.NotStored (state entries).version)))) [
        | true ↦ λ stored. unheld_allowed stored (least_holder (state entries) iri) refl
        | false ↦ λ unstored. (pinned_may_answer limits entries session s legal is pinned (how.NotStored (state entries).version) (and_from _ _ pinned (eq-eqb (state entries).version (state entries).version refl)), tt)
      ] refl

module _ (limits : Limits) (entries : Entries) (legal : Legal limits entries) (session : ℕ) (iri : List ℕ) where
  open_allowed : (s : Session) → at_number (state entries).sessions session ≡ Some s → AllowsStep limits (state entries) (where_ (is_pinned s.last) (evicting_stored (state entries) session iri s))
  open_allowed s is =
      elim (is_pinned s.last) as (λ b. is_pinned s.last ≡ b → AllowsStep limits (state entries) (where_ b (evicting_stored (state entries) session iri s))) [
        | true ↦ λ pinned. stored_allowed limits entries legal session iri s is pinned
        | false ↦ λ no. tt
      ] refl

  session_allowed : (o : Option Session) → at_number (state entries).sessions session ≡ o
      → AllowsStep limits (state entries) (of_found (λ s. where_ (is_pinned s.last) (evicting_stored (state entries) session iri s)) o)
  session_allowed None is = tt
  session_allowed (Some s) is = open_allowed s is

  pub evict_allowed : AllowsStep limits (state entries) (evict_found (state entries) session iri)
  evict_allowed = session_allowed (at_number (state entries).sessions session) refl
