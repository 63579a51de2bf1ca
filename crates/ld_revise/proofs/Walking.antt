-- All requests of a round, from its first pin on.
use Rattle.std.proofs.Common.{◌≡◌, ◌∙◌, ℕ, List, [], ◌∷◌, map, refl, sym, ap, subst}
use Rattle.std.specs.Arc.{arc_value}
use Rattle.std.specs.Prelude.{Ok, Err}
use mathlib.Core.List.{IsPrefix}
use Rattle.ld_flight.specs.Loads.{Loading}
use Rattle.ld_head.specs.declared.outcome.Outcome.{Outcome}
use Rattle.ld_history.specs.Steps.{answer_step}
use Rattle.ld_history.specs.declared.event.How.TheVariants as how
use Rattle.ld_history.specs.declared.limits.Limits.{Limits}
use Rattle.ld_history.specs.declared.session.Last.TheVariants as last
use Rattle.ld_book.specs.Pages.{history_of}
use Rattle.ld_book.specs.declared.answers.Pin.{Pin}
use Rattle.ld_book.specs.declared.answers.RoomRefusal.{RoomRefusal}
use Rattle.ld_book.specs.declared.answers.RoomRefusal.TheVariants as room
use Rattle.ld_own.specs.Own.{Placed}
use Rattle.ld_moves.specs.Standing.{Stands}
use Rattle.ld_moves.specs.Stocks.{IsSound}
use Rattle.ld_moves.proofs.Snapshots.{snapshot_is}
use Rattle.ld_rec.specs.Outcome.{Stock}
use Rattle.ld_rec.specs.declared.doc.Doc.{Doc}
use Rattle.ld_session.specs.Requesting.{version_of}
use Rattle.ld_session.specs.Serving.{IsFull}
use Rattle.ld_session.proofs.Turning.{answered_idle, pinned_attempting}
use Rattle.ld_store.specs.Snapshots.{Standing, doc_of}
use Rattle.ld_tree.specs.formers.entries.Entries.{on_value}
use Rattle.ld_visit.specs.Taking.{Pins, Takes}
use Rattle.ld_visit.specs.Visits.{Took, Visiting}
use Rattle.ld_revise.specs.Rounds.{Come, Ends, names}
use Rattle.ld_revise.specs.Walking.{Holds, Reached, Walks, end_by, nothing}
use Rattle.ld_revise.specs.declared.round.RoundEnd.{RoundEnd}
use Rattle.ld_revise.specs.declared.round.RoundEnd.TheVariants as ending
use Rattle.ld_revise.specs.declared.tally.Tally.{Tally}
use Rattle.ld_revise.proofs.Counting.{sums_none, tally_of}
use Rattle.ld_revise.proofs.Going.{holds_on}
use Rattle.ld_revise.proofs.Making.{done_entry, pinned_entry, was_empty, went_done, went_empty}
use Rattle.ld_revise.proofs.Reaching.{reached_refused}

ends_refused : (limits : Limits) (stock : ℕ → Stock) (full : ℕ → Type 0) (refusal : RoomRefusal) (outcomes : List Outcome) (mine : List Placed)
    → Come limits stock full (end_by refusal) [] outcomes mine → Ends limits stock full (end_by refusal) [] outcomes mine
ends_refused limits stock full room.NoMemory outcomes mine c = c
ends_refused limits stock full (room.HistoryFull events) outcomes mine c = c

-- no version was pinned
pub walks_refused : (visit later : Visiting) (refusal : RoomRefusal) → Took visit later (Pins visit.session (Err refusal)) → Stands visit.pages visit.session last.Idle → (loader : Loading)
    → Walks visit later loader loader nothing (end_by refusal)
walks_refused visit later refusal p idle loader =
    let r = reached_refused visit later loader refusal p idle [] nothing in
    record {
      mine = [];
      went = r.went;
      idle = r.idle;
      outcomes = r.outcomes;
      counted = tally_of r.outcomes nothing r.sums;
      ends = λ stock agree. ends_refused visit.limits stock (IsFull later.limits later.pages) refusal r.outcomes [] (r.come stock agree);
    }

ends_some : (limits : Limits) (stock : ℕ → Stock) (full : ℕ → Type 0) (e : RoundEnd) (iri : List ℕ) (iris : List (List ℕ)) (outcomes : List Outcome) (mine : List Placed)
    → Come limits stock full e (iri ∷ iris) outcomes mine → Ends limits stock full e (iri ∷ iris) outcomes mine
ends_some limits stock full ending.Done iri iris outcomes mine c = c
ends_some limits stock full (ending.HistoryFull events) iri iris outcomes mine c = c
ends_some limits stock full ending.NoMemory iri iris outcomes mine c = c

-- ---- what the first pin names
names_placed : (es : List (List ℕ × Standing)) → map (λ (e : List ℕ × Doc). e.0) (map (on_value doc_of) es) ≡ map (λ (e : List ℕ × Standing). e.0) es
names_placed [] = refl
names_placed (e ∷ es) = ap (λ (rest : List (List ℕ)). e.0 ∷ rest) (names_placed es)

module _ (start visit : Visiting) (pin : Pin) (t : Took start visit (Pins start.session (Ok pin))) where
  abbrev first : Placed
  first = pinned_entry start visit pin t

  pub names_are : Holds visit.pages (λ stock. names (stock (version_of pin)) ≡ map (λ e. e.0) (arc_value pin.snapshot).placed.0)
  names_are stock agree =
      let at = pinned_attempting start visit pin t in
      ap names (agree (version_of pin) at.current ∙ sym (snapshot_is (arc_value pin.snapshot) visit.pages (version_of pin) at.documents)) ∙ names_placed (arc_value pin.snapshot).placed.0

  names_later : (later : Visiting) → IsSound later.limits later.pages → IsPrefix visit.pages later.pages → Holds later.pages (λ stock. names (stock (version_of pin)) ≡ map (λ e. e.0) (arc_value pin.snapshot).placed.0)
  names_later later sound grows = holds_on later.limits visit.pages later.pages sound grows (λ stock. names (stock (version_of pin)) ≡ map (λ e. e.0) (arc_value pin.snapshot).placed.0) names_are

  pub walks_empty : (end : Visiting) (a : Took visit end (Takes (λ found. answer_step (history_of found) visit.session how.Done))) → (arc_value pin.snapshot).placed.0 ≡ [] → (loader : Loading)
      → Walks start end loader loader nothing ending.Done
  walks_empty end a none loader =
      let went = went_empty start visit pin t end a loader in
      record {
        mine = first ∷ done_entry start visit pin t end a ∷ [];
        went = went;
        idle = answered_idle visit end how.Done a;
        outcomes = [];
        counted = tally_of [] nothing (sums_none nothing);
        ends = λ stock agree.
            subst (λ iris. Ends start.limits stock (IsFull end.limits end.pages) ending.Done iris [] (first ∷ done_entry start visit pin t end a ∷ []))
            (sym (names_later end went.sound (went_done start visit pin t end a loader).grows stock agree ∙ ap (λ es. map (λ (e : List ℕ × Standing). e.0) es) none)) (refl, was_empty start visit pin t end a start.limits stock);
      }

  pub walks_some : (later : Visiting) (before after : Loading) (iri : List ℕ) (iris : List (List ℕ)) (u : Tally) (e : RoundEnd) (rest : List Placed)
      → map (λ e. e.0) (arc_value pin.snapshot).placed.0 ≡ iri ∷ iris → IsPrefix visit.pages later.pages → Reached start later before after (iri ∷ iris) nothing u e (first ∷ rest) → Walks start later before after u e
  walks_some later before after iri iris u e rest some grows r = record {
    mine = first ∷ rest;
    went = r.went;
    idle = r.idle;
    outcomes = r.outcomes;
    counted = tally_of r.outcomes u r.sums;
    ends = λ stock agree.
        subst (λ names. Ends start.limits stock (IsFull later.limits later.pages) e names r.outcomes (first ∷ rest))
        (sym (names_later later r.went.sound grows stock agree ∙ some))
        (ends_some start.limits stock (IsFull later.limits later.pages) e iri iris r.outcomes (first ∷ rest) (r.come stock agree));
  }
