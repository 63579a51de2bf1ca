-- An eviction.
use Rattle.std.proofs.Common.{◌≡◌, ◌∙◌, ◌⊎◌, inl, inr, ℕ, ◌+◌, Bool, true, false, List, [], ◌∷◌, ◌++◌, refl, sym, ap, subst}
use Rattle.std.specs.Prelude.{Option, Some, None, if◌then◌else◌}
use Rattle.ld_history.specs.After.{after}
use Rattle.ld_history.specs.ByTurns.{LegalFrom}
use Rattle.ld_history.specs.Legal.{Entries, state}
use Rattle.ld_history.specs.Plans.{AllowsStep}
use Rattle.ld_history.specs.Steps as steps
use Rattle.ld_history.specs.Steps.{Taken, appended, plain}
use Rattle.ld_history.specs.Store.{Store}
use Rattle.ld_history.specs.Words.{at_iri, at_number, is_pinned, is_stored, least_holder}
use Rattle.ld_history.specs.declared.answers.EvictAnswer.{EvictAnswer}
use Rattle.ld_history.specs.declared.answers.EvictAnswer.TheVariants as evict_answer
use Rattle.ld_history.specs.declared.event.Event.TheVariants as event
use Rattle.ld_history.specs.declared.event.How.{How}
use Rattle.ld_history.specs.declared.event.How.TheVariants as how
use Rattle.ld_history.specs.declared.limits.Limits.{Limits}
use Rattle.ld_history.specs.declared.session.Flying.{Flying}
use Rattle.ld_history.specs.declared.session.Last.TheVariants as last
use Rattle.ld_history.specs.declared.session.Session.{Session}
use Rattle.ld_history.proofs.LawCrew.{changed_same}
use Rattle.ld_history.proofs.LawReads.{read_answer}
use Rattle.ld_history.proofs.StepEvict.{evict_allowed}
use Rattle.ld_fits.specs.Leading.{after_evict}
use Rattle.ld_fits.specs.Play.{Evicting, Request}
use Rattle.ld_fits.proofs.Leading.{evict_goes}
use Rattle.ld_book.specs.Pages.{Booked, Pages, after_step, bare, entries_of, history_of}
use Rattle.ld_moves.specs.Moving.{Finds, MovesOn}
use Rattle.ld_moves.specs.Standing.{Stands}
use Rattle.ld_moves.proofs.Lacking.{IsRefused, refused_quiet, refused_stands}
use Rattle.ld_moves.proofs.Quiet.{AreQuiet, quiet_moves}
use Rattle.ld_moves.proofs.Stepping.{as_step}
use Rattle.ld_moves.proofs.Taking.{state_with, turns_legal}

-- the request is answered, at once or after its context went out
abbrev EndsBy : ℕ → List ℕ → Entries → Type 0
EndsBy session iri es = IsRefused session es ⊎ ((version request : ℕ) × (said : How (List ℕ)) × (es ≡ plain (event.Evicted session iri version) ∷ plain (event.Answered session request said) ∷ []))

module _ (store : Store) (session : ℕ) (iri : List ℕ) where
  abbrev Q : Taken EvictAnswer → Type 0
  Q t = EndsBy session iri t.entries

  unrevised_by : (s : Session) (o : Option Flying) → Q (steps.evicting_unrevised store session iri s o)
  unrevised_by s None = inr (store.version + 1, s.request, how.Evicted (store.version + 1), refl)
  unrevised_by s (Some revision) = inl (s.request, how.Revising revision.flight, refl)

  unheld_by : (s : Session) (o : Option ℕ) → Q (steps.evicting_unheld store session iri s o)
  unheld_by s None = unrevised_by s (at_iri store.revisions iri)
  unheld_by s (Some holder) = inl (s.request, how.Held holder, refl)

  stored_by : (s : Session) (b : Bool) → Q (if b then steps.evicting_unheld store session iri s (least_holder store iri) else steps.ending session s (evict_answer.NotStored store.version) (how.NotStored store.version))
  stored_by s true = unheld_by s (least_holder store iri)
  stored_by s false = inl (s.request, how.NotStored store.version, refl)

  taken_by : (t : Taken EvictAnswer) (o : Option Session) → steps.of_found (λ s. steps.where_ (is_pinned s.last) (steps.evicting_stored store session iri s)) o ≡ Some t → Q t
  taken_by t None e = cc
  taken_by t (Some s) e = go (is_pinned s.last) e
    where
      same : (a : Taken EvictAnswer) → Some a ≡ Some t → a ≡ t
      same a e = cc

      go : (b : Bool) → steps.where_ b (steps.evicting_stored store session iri s) ≡ Some t → Q t
      go true e = subst Q (same (steps.evicting_stored store session iri s) e) (stored_by s (is_stored store iri))
      go false e = cc

ends_quiet : (session : ℕ) (iri : List ℕ) (es : Entries) → EndsBy session iri es → AreQuiet es
ends_quiet session iri es (inl h) = refused_quiet session es h
ends_quiet session iri es (inr h) = subst AreQuiet (sym h.3) (refl, (refl, tt))

module _ (session : ℕ) (limits : Limits) (front : Pages) (found : Booked) (f : Finds session limits front found) (iri : List ℕ) where
  abbrev store : Store
  store = state (entries_of found.pages)

  ends_stand : (es : Entries) → EndsBy session iri es → LegalFrom limits store es → Stands (found.pages ++ bare es) session last.Idle
  ends_stand es (inl h) legal = refused_stands session limits front found f es h legal
  ends_stand es (inr h) legal =
      let gone : Store = after store (plain (event.Evicted session iri h.0)) in
      let ok = subst (LegalFrom limits store) h.3 legal in
      let p = read_answer limits gone session h.1 h.2 ok.1.0 in
      subst (λ (es : Entries). Stands (found.pages ++ bare es) session last.Idle) (sym h.3)
      (record {
        s = record p.s { held = []; last = last.Idle };
        is = ap (λ (st : Store). at_number st.sessions session) (state_with session limits front found f (bare (plain (event.Evicted session iri h.0) ∷ plain (event.Answered session h.1 h.2) ∷ [])))
            ∙ changed_same gone.sessions session (λ (s : Session). record s { held = []; last = last.Idle }) p.s p.is;
        last_is = refl;
      })

  module _ (t : Taken EvictAnswer) (is : steps.evict_step (history_of found) session iri ≡ Some t) where
    legal_taken : LegalFrom limits store t.entries
    legal_taken = subst (AllowsStep limits store) is (evict_allowed limits (entries_of found.pages) (turns_legal session limits front found f) session iri)

    by_taken : EndsBy session iri t.entries
    by_taken = taken_by store session iri t (at_number store.sessions session) is

    pub evict_moves : (r : Request) → MovesOn session limits front (after_step found (steps.evict_step (history_of found) session iri)).pages (Evicting r iri) (after_evict r t.answer)
    evict_moves r =
        as_step found (steps.evict_step (history_of found) session iri) (λ pages. MovesOn session limits front pages (Evicting r iri) (after_evict r t.answer)) t.entries (ap appended is)
        (quiet_moves session limits front found f t.entries legal_taken (ends_quiet session iri t.entries by_taken) (Evicting r iri) (after_evict r t.answer)
        (λ stock. evict_goes limits stock store session r iri t is))

    pub evict_stands : Stands (after_step found (steps.evict_step (history_of found) session iri)).pages session last.Idle
    evict_stands = as_step found (steps.evict_step (history_of found) session iri) (λ pages. Stands pages session last.Idle) t.entries (ap appended is) (ends_stand t.entries by_taken legal_taken)
