-- What a revision and an eviction come to, by what the book answers.
use Rattle.std.proofs.Common.{◌≡◌, ◌∙◌, ℕ, refl, sym, ap, subst}
use Rattle.std.specs.Prelude.{List, Option, Some, Ok, Err}
use Rattle.ld_fits.specs.Leading.{after_evict, after_revise}
use Rattle.ld_fits.specs.Play.{Evicting, Reloading, Request, Revising, Stage, replied}
use Rattle.ld_flight.specs.Loads.{Loading}
use Rattle.ld_head.specs.declared.outcome.Outcome.{Outcome}
use Rattle.ld_head.specs.declared.outcome.Outcome.TheVariants as outcome
use Rattle.ld_history.specs.Steps.{Taken, evict_step, revise_step}
use Rattle.ld_history.specs.declared.answers.EvictAnswer.{EvictAnswer}
use Rattle.ld_history.specs.declared.answers.EvictAnswer.TheVariants as evict_answer
use Rattle.ld_history.specs.declared.answers.ReviseAnswer.{ReviseAnswer}
use Rattle.ld_history.specs.declared.answers.ReviseAnswer.TheVariants as revise_answer
use Rattle.ld_history.specs.declared.session.End.TheVariants as end
use Rattle.ld_history.specs.declared.session.Kind.TheVariants as kind
use Rattle.ld_history.specs.declared.session.Last.TheVariants as last
use Rattle.ld_book.specs.Pages.{Pages, after_step, history_of}
use Rattle.ld_book.specs.Said.{told_evict, told_revise}
use Rattle.ld_book.specs.declared.answers.EvictAnswer as evicted
use Rattle.ld_book.specs.declared.answers.EvictAnswer.TheVariants as evict
use Rattle.ld_book.specs.declared.answers.ReviseAnswer as revised
use Rattle.ld_book.specs.declared.answers.ReviseAnswer.TheVariants as revise
use Rattle.ld_moves.specs.Standing.{AfterRevise, IsOf, Stands}
use Rattle.ld_moves.proofs.Evicting.{evict_moves, evict_stands}
use Rattle.ld_moves.proofs.Revising.{revise_moves, revise_told}
use Rattle.ld_visit.specs.Ending.{IsLeading}
use Rattle.ld_visit.specs.Taking.{TakesOr}
use Rattle.ld_visit.specs.Visits.{Took, Visiting}
use Rattle.ld_session.specs.Requesting.{Ends, Revised, evicted_as, revised_to}
use Rattle.ld_session.specs.Serving.{Moved}
use Rattle.ld_session.proofs.Flights.{says_taken}
use Rattle.ld_session.proofs.Moving.{took_at, took_on}

-- ---- a revision
revise_so : (pages : Pages) (session : ℕ) (iri : List ℕ) (a : ReviseAnswer) → AfterRevise pages session iri a → Revised pages session iri (told_revise iri a)
revise_so pages session iri (revise_answer.Led flight) h = (h.0, record { kind = kind.Revise; is = h.1 }, record { flight = record { iri = iri; kind = kind.Revise; session = session; end = end.UnderWay }; is = h.1; iri_is = refl })
revise_so pages session iri (revise_answer.NotStored version) h = h
revise_so pages session iri (revise_answer.Flying flight) h = h
revise_so pages session iri (revise_answer.ArchiveFull bytes) h = h

revise_same : (r : Request) (iri : List ℕ) (a : ReviseAnswer) → after_revise r iri a ≡ revised_to r iri (told_revise iri a)
revise_same r iri (revise_answer.Led flight) = refl
revise_same r iri (revise_answer.NotStored version) = refl
revise_same r iri (revise_answer.Flying flight) = refl
revise_same r iri (revise_answer.ArchiveFull bytes) = refl

module _ (E : Type 0) (visit later : Visiting) (iri : List ℕ) (x : revised.ReviseAnswer) (t : Took visit later (TakesOr {E = E} (told_revise iri) (λ found. revise_step (history_of found) visit.session iri) (Ok x))) where
  revision_taken : (a : Taken ReviseAnswer) × (revise_step (history_of t.found) visit.session iri ≡ Some a) × (told_revise iri a.answer ≡ x)
  revision_taken = says_taken (told_revise iri) (revise_step (history_of t.found) visit.session iri) x t.took.0

  abbrev revise_pages : Pages
  revise_pages = (after_step t.found (revise_step (history_of t.found) visit.session iri)).pages

  pub revise_stands : Revised later.pages later.session iri x
  revise_stands =
      subst (Revised later.pages later.session iri) revision_taken.2
      (took_at visit later (TakesOr {E = E} (told_revise iri) (λ found. revise_step (history_of found) visit.session iri) (Ok x)) t revise_pages t.took.1
      (λ pages n. Revised pages n iri (told_revise iri revision_taken.0.answer))
      (revise_so revise_pages visit.session iri revision_taken.0.answer (revise_told visit.session visit.limits visit.pages t.found t.finds iri revision_taken.0 revision_taken.1)))

  pub revise_moved : (loader : Loading) (r : Request) → Moved visit later loader loader (Revising r iri) (revised_to r iri x)
  revise_moved loader r =
      subst (λ to. Moved visit later loader loader (Revising r iri) to) (revise_same r iri revision_taken.0.answer ∙ ap (revised_to r iri) revision_taken.2)
      (took_on visit later (TakesOr {E = E} (told_revise iri) (λ found. revise_step (history_of found) visit.session iri) (Ok x)) t revise_pages t.took.1
      (Revising r iri) (after_revise r iri revision_taken.0.answer) (revise_moves visit.session visit.limits visit.pages t.found t.finds iri revision_taken.0 revision_taken.1 r) loader)

-- ---- an eviction
evict_same : (r : Request) (a : EvictAnswer) → after_evict r a ≡ replied r (Some (evicted_as (told_evict a)))
evict_same r (evict_answer.Evicted version) = refl
evict_same r (evict_answer.NotStored version) = refl
evict_same r (evict_answer.Held session) = refl
evict_same r (evict_answer.Revising flight) = refl

module _ (E : Type 0) (visit later : Visiting) (iri : List ℕ) (x : evicted.EvictAnswer) (t : Took visit later (TakesOr {E = E} told_evict (λ found. evict_step (history_of found) visit.session iri) (Ok x))) where
  eviction_taken : (a : Taken EvictAnswer) × (evict_step (history_of t.found) visit.session iri ≡ Some a) × (told_evict a.answer ≡ x)
  eviction_taken = says_taken told_evict (evict_step (history_of t.found) visit.session iri) x t.took.0

  abbrev evict_pages : Pages
  evict_pages = (after_step t.found (evict_step (history_of t.found) visit.session iri)).pages

  pub evict_ends : (loader : Loading) → Ends visit later loader loader (λ r. Evicting r iri) (evicted_as x)
  evict_ends loader = (
    took_at visit later (TakesOr {E = E} told_evict (λ found. evict_step (history_of found) visit.session iri) (Ok x)) t evict_pages t.took.1
        (λ pages n. Stands pages n last.Idle) (evict_stands visit.session visit.limits visit.pages t.found t.finds iri eviction_taken.0 eviction_taken.1),
    λ r. subst (λ to. Moved visit later loader loader (Evicting r iri) to) (evict_same r eviction_taken.0.answer ∙ ap (λ a. replied r (Some (evicted_as a))) eviction_taken.2)
        (took_on visit later (TakesOr {E = E} told_evict (λ found. evict_step (history_of found) visit.session iri) (Ok x)) t evict_pages t.took.1
        (Evicting r iri) (after_evict r eviction_taken.0.answer) (evict_moves visit.session visit.limits visit.pages t.found t.finds iri eviction_taken.0 eviction_taken.1 r) loader),
  )
