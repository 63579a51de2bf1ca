-- One request of a round, from its pin to its answer.
use Rattle.std.proofs.Common.{◌≡◌, ◌∙◌, ℕ, ◌+◌, ◌≤◌, List, [], ◌∷◌, ◌++◌, length, length-append, refl, ap, subst, eq-eqb, arith}
use Rattle.std.specs.Prelude.{Some, Ok}
use Rattle.ld_fits.specs.Fits.{Leads}
use Rattle.ld_fits.specs.Play.{Request, Revising, replied}
use Rattle.ld_flight.specs.Loads.{Loading}
use Rattle.ld_head.specs.declared.outcome.Outcome.{Outcome}
use Rattle.ld_history.specs.Legal.{state}
use Rattle.ld_history.specs.Steps.{answer_step, pin_step, plain}
use Rattle.ld_history.specs.declared.answers.PinAnswer.TheVariants as pin_answer
use Rattle.ld_history.specs.declared.event.Event.{Event}
use Rattle.ld_history.specs.declared.event.Event.TheVariants as event
use Rattle.ld_history.specs.declared.event.How.TheVariants as how
use Rattle.ld_history.specs.declared.limits.Limits.{Limits}
use Rattle.ld_history.specs.declared.session.Last.TheVariants as last
use Rattle.ld_book.specs.Pages.{bare, entries_of, history_of}
use Rattle.ld_book.specs.declared.answers.Pin.{Pin}
use Rattle.ld_book.proofs.Saying.{ByPin, pin_says, said}
use Rattle.ld_own.specs.Own.{Placed, placed}
use Rattle.ld_moves.specs.Standing.{Stands}
use Rattle.ld_moves.proofs.Stepping.{answer_entries}
use Rattle.ld_session.specs.Requesting.{EndsAt, version_of}
use Rattle.ld_session.specs.Serving.{Moved}
use Rattle.ld_session.proofs.Moving.{pinned_stands}
use Rattle.ld_session.proofs.Turning.{pinned_attempting}
use Rattle.ld_visit.specs.Taking.{Pins, Takes}
use Rattle.ld_visit.specs.Visits.{Took, Visiting}
use Rattle.ld_rec.specs.Outcome.{Stock}
use Rattle.ld_revise.specs.Rounds.{WasEmpty, unheard}
use Rattle.ld_revise.specs.Walking.{Made, Went}
use Rattle.ld_revise.proofs.Counting.{longer}
use Rattle.ld_revise.proofs.Going.{went_moved, went_more, went_one}

-- ---- a pin
module _ (visit later : Visiting) (pin : Pin) (t : Took visit later (Pins visit.session (Ok pin))) where
  abbrev pub pin_event : Event (List ℕ)
  pin_event = event.Pinned visit.session pin.request pin.attempt (version_of pin)

  pin_pages : later.pages ≡ t.found.pages ++ bare (plain pin_event ∷ [])
  pin_pages =
      t.took.1
      ∙ ap (λ es. t.found.pages ++ bare es)
      (said (ByPin (state (entries_of t.found.pages)) visit.session) (pin_step (history_of t.found) visit.session) (pin_says (history_of t.found) visit.session) (pin_answer.Pinned pin.request pin.attempt (version_of pin)) t.took.0).0

  abbrev pub pinned_entry : Placed
  pinned_entry = placed (state (entries_of t.found.pages)) (plain pin_event)

  pub went_pinned : (loader : Loading) → Went visit later loader loader (pinned_entry ∷ [])
  went_pinned loader = went_one visit later (Pins visit.session (Ok pin)) t pin_event pin_pages (eq-eqb visit.session visit.session refl) loader refl (λ low. omega arith)

  pub pin_grows : length visit.pages + 1 ≤ length later.pages
  pin_grows =
      let one : length later.pages ≡ length t.found.pages + 1 = ap length pin_pages ∙ length-append t.found.pages (bare (plain pin_event ∷ [])) in
      let before = longer visit.pages t.found.pages t.finds.grows in
      omega (arith, one, before)

  pub stands_pinned : Stands later.pages later.session last.Pinned
  stands_pinned = pinned_stands later.pages later.session pin.request (version_of pin) (pinned_attempting visit later pin t).pinned

  -- ---- and its answer
  module _ (end : Visiting) (before after : Loading) (iri : List ℕ) (o : Outcome) (h : EndsAt later end before after (version_of pin) (λ r. Revising r iri) o) where
    abbrev pub asked : Request
    asked = unheard pin.request (version_of pin)

    pub moved : Moved later end before after (Revising asked iri) (replied asked (Some o))
    moved = h.1 asked

    pub made : Made visit end before after iri o (pinned_entry ∷ moved.moves.mine)
    made =
        let rest = went_moved later end before after (Revising asked iri) (replied asked (Some o)) moved in
        record {
          went = went_more visit later end before before after (pinned_entry ∷ []) moved.moves.mine (went_pinned before) rest;
          idle = h.0;
          grown = let one = pin_grows in let more = longer later.pages end.pages rest.grows in omega (arith, one, more);
          revises = λ stock agree. record {
            session = visit.session;
            request = pin.request;
            attempt = pin.attempt;
            version = version_of pin;
            pin = pinned_entry;
            since = moved.moves.mine;
            are = refl;
            pins = refl;
            leads = subst (λ (l : Limits). Leads l stock (Revising asked iri) moved.moves.mine (replied asked (Some o))) t.limits_are (moved.moves.goes stock agree);
          };
        }

-- ---- a request that revises nothing
module _ (visit later : Visiting) (pin : Pin) (t : Took visit later (Pins visit.session (Ok pin))) (end : Visiting) (a : Took later end (Takes (λ found. answer_step (history_of found) later.session how.Done))) where
  abbrev done_event : Event (List ℕ)
  done_event = event.Answered later.session a.took.0.answer how.Done

  done_pages : end.pages ≡ a.found.pages ++ bare (plain done_event ∷ [])
  done_pages = a.took.2 ∙ ap (λ es. a.found.pages ++ bare es) (answer_entries later.session later.limits later.pages a.found a.finds how.Done a.took.0 a.took.1)

  abbrev pub done_entry : Placed
  done_entry = placed (state (entries_of a.found.pages)) (plain done_event)

  pub went_done : (loader : Loading) → Went later end loader loader (done_entry ∷ [])
  went_done loader =
      went_one later end (Takes (λ found. answer_step (history_of found) later.session how.Done)) a done_event done_pages (eq-eqb later.session later.session refl) loader refl (λ low. omega arith)

  pub went_empty : (loader : Loading) → Went visit end loader loader (pinned_entry visit later pin t ∷ done_entry ∷ [])
  went_empty loader = went_more visit later end loader loader loader (pinned_entry visit later pin t ∷ []) (done_entry ∷ []) (went_pinned visit later pin t loader) (went_done loader)

  pub was_empty : (limits : Limits) (stock : ℕ → Stock) → WasEmpty limits stock (pinned_entry visit later pin t ∷ done_entry ∷ [])
  was_empty limits stock = record {
    session = visit.session;
    request = pin.request;
    attempt = pin.attempt;
    version = version_of pin;
    answered = a.took.0.answer;
    pin = pinned_entry visit later pin t;
    done = done_entry;
    are = refl;
    pins = refl;
    is_done = ap (λ (s : ℕ). event.Answered s a.took.0.answer how.Done) t.session_is;
  }
