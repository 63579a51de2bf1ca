-- What a lack comes to, by what the book answers.
use Rattle.std.proofs.Common.{◌≡◌, ◌∙◌, ℕ, refl, sym, ap, subst}
use Rattle.std.specs.Prelude.{List, Option, Some, Ok, Err}
use Rattle.ld_answer.specs.Bodies.{too_many_body}
use Rattle.ld_answer.specs.declared.envelope.Envelope.{Envelope}
use Rattle.ld_answer.specs.declared.op.Op.{Op}
use Rattle.ld_fits.specs.Leading.{after_lack}
use Rattle.ld_fits.specs.Play.{Lacking, Pinned, Request, Stage, replied}
use Rattle.ld_flight.specs.Loads.{Loading}
use Rattle.ld_head.specs.declared.outcome.Outcome.TheVariants as outcome
use Rattle.ld_history.specs.Steps.{Taken, lack_step}
use Rattle.ld_history.specs.declared.answers.LackAnswer.{LackAnswer}
use Rattle.ld_history.specs.declared.answers.LackAnswer.TheVariants as lack_answer
use Rattle.ld_history.specs.declared.session.End.TheVariants as end
use Rattle.ld_history.specs.declared.session.Kind.TheVariants as kind
use Rattle.ld_history.specs.declared.session.Last.TheVariants as last
use Rattle.ld_book.specs.Pages.{Pages, after_step, history_of}
use Rattle.ld_book.specs.Said.{Says, told_lack}
use Rattle.ld_book.specs.declared.answers.LackAnswer as lacked
use Rattle.ld_book.specs.declared.answers.LackAnswer.TheVariants as lack
use Rattle.ld_moves.specs.Standing.{AfterLack, IsOf, Stands}
use Rattle.ld_moves.proofs.Lacking.{lack_moves, lack_tells}
use Rattle.ld_rec.specs.declared.stop.Stop.TheVariants as stop
use Rattle.ld_visit.specs.Ending.{IsLeading}
use Rattle.ld_visit.specs.Taking.{TakesOr}
use Rattle.ld_visit.specs.Visits.{Took, Visiting}
use Rattle.ld_session.specs.Requesting.{Lacked, lacked_to}
use Rattle.ld_session.specs.Serving.{Moved}
use Rattle.ld_session.proofs.Flights.{says_taken}
use Rattle.ld_session.proofs.Moving.{took_at, took_on}

told_so : (pages : Pages) (session : ℕ) (iri : List ℕ) (a : LackAnswer) → AfterLack pages session iri a → Lacked pages session iri (told_lack iri a)
told_so pages session iri lack_answer.There h = h
told_so pages session iri (lack_answer.Joined flight) h = h
told_so pages session iri (lack_answer.Led flight out) h = (h.0, record { kind = kind.Lead; is = h.1 }, record { flight = record { iri = iri; kind = kind.Lead; session = session; end = end.UnderWay }; is = h.1; iri_is = refl })
told_so pages session iri (lack_answer.TooMany held) h = h
told_so pages session iri lack_answer.StoreFull h = h
told_so pages session iri (lack_answer.ArchiveFull bytes) h = h

to_same : (r : Request) (op : Op) (envelope : Envelope) (iri : List ℕ) (a : LackAnswer) → after_lack r op envelope iri a ≡ lacked_to r op envelope iri (told_lack iri a)
to_same r op envelope iri lack_answer.There = refl
to_same r op envelope iri (lack_answer.Joined flight) = refl
to_same r op envelope iri (lack_answer.Led flight out) = refl
to_same r op envelope iri (lack_answer.TooMany held) = refl
to_same r op envelope iri lack_answer.StoreFull = refl
to_same r op envelope iri (lack_answer.ArchiveFull bytes) = refl

module _ (E : Type 0) (visit later : Visiting) (iri : List ℕ) (x : lacked.LackAnswer) (t : Took visit later (TakesOr {E = E} (told_lack iri) (λ found. lack_step (history_of found) visit.session iri) (Ok x))) where
  taken : (a : Taken LackAnswer) × (lack_step (history_of t.found) visit.session iri ≡ Some a) × (told_lack iri a.answer ≡ x)
  taken = says_taken (told_lack iri) (lack_step (history_of t.found) visit.session iri) x t.took.0

  abbrev lack_pages : Pages
  lack_pages = (after_step t.found (lack_step (history_of t.found) visit.session iri)).pages

  pub lack_stands : Lacked later.pages later.session iri x
  lack_stands =
      subst (Lacked later.pages later.session iri) taken.2
      (took_at visit later (TakesOr {E = E} (told_lack iri) (λ found. lack_step (history_of found) visit.session iri) (Ok x)) t lack_pages t.took.1
      (λ pages n. Lacked pages n iri (told_lack iri taken.0.answer))
      (told_so lack_pages visit.session iri taken.0.answer (lack_tells visit.session visit.limits visit.pages t.found t.finds iri taken.0 taken.1)))

  pub lack_moved : (loader : Loading) (op : Op) (envelope : Envelope) (r : Request) → Moved visit later loader loader (Pinned r op envelope (Err (stop.Missing iri))) (lacked_to r op envelope iri x)
  lack_moved loader op envelope r =
      subst (λ to. Moved visit later loader loader (Pinned r op envelope (Err (stop.Missing iri))) to) (to_same r op envelope iri taken.0.answer ∙ ap (lacked_to r op envelope iri) taken.2)
      (took_on visit later (TakesOr {E = E} (told_lack iri) (λ found. lack_step (history_of found) visit.session iri) (Ok x)) t lack_pages t.took.1
      (Pinned r op envelope (Err (stop.Missing iri))) (after_lack r op envelope iri taken.0.answer) (lack_moves visit.session visit.limits visit.pages t.found t.finds iri taken.0 taken.1 r op envelope) loader)
