-- What each turn of a session moves, and what the session knows after it.
use Rattle.std.proofs.Common.{◌≡◌, ◌∙◌, ℕ, ◌≤◌, refl, sym, ap, subst}
use Rattle.std.specs.Arc.{arc_value}
use Rattle.std.specs.Prelude.{List, Ok, Err}
use Rattle.ld_fits.specs.Play.{Stage, step}
use Rattle.ld_flight.specs.Loads.{Loading}
use Rattle.ld_history.specs.Legal.{state}
use Rattle.ld_history.specs.Steps.{Answers, answer_step, pin_step}
use Rattle.ld_history.specs.declared.answers.PinAnswer.TheVariants as pin_answer
use Rattle.ld_history.specs.declared.event.Event.TheVariants as event
use Rattle.ld_history.specs.declared.event.How.{How}
use Rattle.ld_history.specs.declared.limits.Limits.{Limits}
use Rattle.ld_history.specs.declared.session.Last.{Last}
use Rattle.ld_history.specs.declared.session.Last.TheVariants as last
use Rattle.ld_book.specs.Pages.{Booked, Pages, after_step, entries_of, history_of}
use Rattle.ld_book.specs.declared.answers.Pin.{Pin}
use Rattle.ld_book.specs.declared.answers.RoomRefusal.{RoomRefusal}
use Rattle.ld_moves.specs.Moving.{MovesOn, version_in}
use Rattle.ld_moves.specs.Standing.{HasPinned, Stands}
use Rattle.ld_moves.specs.Stocks.{stocks}
use Rattle.ld_moves.proofs.Stepping.{answer_moves, answer_told, pin_moves, pin_rises, pin_told}
use Rattle.ld_visit.specs.Taking.{Pins, Takes}
use Rattle.ld_visit.specs.Visits.{Took, Visiting}
use Rattle.ld_session.specs.Requesting.{Attempting, version_of}
use Rattle.ld_session.specs.Serving.{Moved}
use Rattle.ld_session.proofs.Moving.{still_stands, took_at, took_none, took_on, took_sound}

-- ---- an answer
module _ (visit later : Visiting) (how : How (List ℕ)) (t : Took visit later (Takes (λ found. answer_step (history_of found) visit.session how))) where
  abbrev answer_pages : Pages
  answer_pages = (after_step t.found (answer_step (history_of t.found) visit.session how)).pages

  pub answered_idle : Stands later.pages later.session last.Idle
  answered_idle =
      took_at visit later (Takes (λ found. answer_step (history_of found) visit.session how)) t answer_pages t.took.2 (λ pages n. Stands pages n last.Idle) (answer_told visit.session visit.limits visit.pages t.found t.finds how t.took.0 t.took.1)

  pub answered_moved : (from : Stage) (loader : Loading)
      → Moved visit later loader loader from (step visit.limits (stocks answer_pages) (state (entries_of t.found.pages)) from (event.Answered visit.session t.took.0.answer how))
  answered_moved from loader =
      took_on visit later (Takes (λ found. answer_step (history_of found) visit.session how)) t answer_pages t.took.2 from (step visit.limits (stocks answer_pages) (state (entries_of t.found.pages)) from (event.Answered visit.session t.took.0.answer how))
      (answer_moves visit.session visit.limits visit.pages t.found t.finds how t.took.0 t.took.1 from) loader

-- ---- a pin
module _ (visit later : Visiting) (pin : Pin) (t : Took visit later (Pins visit.session (Ok pin))) where
  abbrev pin_pages : Pages
  pin_pages = (after_step t.found (pin_step (history_of t.found) visit.session)).pages

  told : HasPinned later.pages later.session pin.request (version_of pin)
  told =
      took_at visit later (Pins visit.session (Ok pin)) t pin_pages t.took.1 (λ pages n. HasPinned pages n pin.request (version_of pin))
      (pin_told visit.session visit.limits visit.pages t.found t.finds pin.request pin.attempt (version_of pin) t.took.0)

  pub pinned_attempting : Attempting later pin
  pinned_attempting = record {
    sound = took_sound visit later (Pins visit.session (Ok pin)) t;
    pinned = told;
    current = subst (λ (p : Pages). version_of pin ≤ version_in p) (sym t.took.1) (pin_rises visit.session visit.limits visit.pages t.found t.finds pin.request pin.attempt (version_of pin) t.took.0);
    documents = t.took.2;
  }

  pub pinned_moved : (from : Stage) (loader : Loading)
      → Moved visit later loader loader from (step visit.limits (stocks later.pages) (state (entries_of t.found.pages)) from (event.Pinned visit.session pin.request pin.attempt (version_of pin)))
  pinned_moved from loader =
      subst (λ (p : Pages). Moved visit later loader loader from (step visit.limits (stocks p) (state (entries_of t.found.pages)) from (event.Pinned visit.session pin.request pin.attempt (version_of pin)))) (sym t.took.1)
      (took_on visit later (Pins visit.session (Ok pin)) t pin_pages t.took.1 from (step visit.limits (stocks pin_pages) (state (entries_of t.found.pages)) from (event.Pinned visit.session pin.request pin.attempt (version_of pin)))
      (pin_moves visit.session visit.limits visit.pages t.found t.finds pin.request pin.attempt (version_of pin) t.took.0 from) loader)

-- a pin that was refused
module _ (visit later : Visiting) (refusal : RoomRefusal) (t : Took visit later (Pins visit.session (Err refusal))) where
  pub refused_idle : (l : Last) → Stands visit.pages visit.session l → Stands later.pages later.session l
  refused_idle l h = still_stands visit later (Pins visit.session (Err refusal)) t t.took.1 l h

  pub refused_moved : (stage : Stage) (loader : Loading) → Moved visit later loader loader stage stage
  refused_moved stage loader = took_none visit later (Pins visit.session (Err refusal)) t t.took.1 stage loader
