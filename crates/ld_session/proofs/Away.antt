-- A connection for which no session was opened.
use Rattle.std.proofs.Common.{◌≡◌, ◌∙◌, ◌⊎◌, inl, inr, ℕ, ◌+◌, ◌<◌, Bool, true, false, List, [], ◌∷◌, ◌++◌, length, take, refl, sym, ap, subst, arith}
use Rattle.std.specs.Prelude.{IfErr, Option, Some, None, Result, Err, if◌then◌else◌, nat_lt, not, ◌&&◌}
use Rattle.std.specs.Option.{option_map}
use Rattle.std.proofs.lemmas.List.{length-map}
use mathlib.Core.List.{IsPrefix}
use Rattle.ld_edge.specs.Passing.{Goes}
use Rattle.ld_edge.specs.Sides.{Incoming, Outgoing}
use Rattle.ld_flight.specs.Loads.{Loading}
use Rattle.ld_head.specs.declared.session_end.SessionEnd.{SessionEnd}
use Rattle.ld_head.specs.declared.session_end.SessionEnd.TheVariants as end
use Rattle.ld_history.specs.Legal.{state}
use Rattle.ld_history.specs.Steps as steps
use Rattle.ld_history.specs.Steps.{Answers, Taken, open_step}
use Rattle.ld_history.specs.Store.{Store}
use Rattle.ld_history.specs.Words.{history_has_room, is_taken}
use Rattle.ld_history.specs.declared.answers.OpenAnswer.{OpenAnswer}
use Rattle.ld_history.specs.declared.answers.OpenAnswer.TheVariants as open_answer
use Rattle.ld_history.specs.declared.event.Event.TheVariants as event
use Rattle.ld_history.specs.declared.limits.Limits.{Limits}
use Rattle.ld_history.proofs.LawHolds.{events_counted}
use Rattle.ld_history.proofs.LawTold.{by_turns}
use Rattle.ld_book.specs.Pages.{Booked, Pages, entries_of, history_of}
use Rattle.ld_book.specs.Said.{IsRefusal}
use Rattle.ld_book.specs.Seats.{Lines, lines_of}
use Rattle.ld_book.specs.declared.answers.RoomRefusal.{RoomRefusal}
use Rattle.ld_book.specs.declared.answers.RoomRefusal.TheVariants as room
use Rattle.ld_book.specs.declared.page.Line.{Line}
use Rattle.ld_book.specs.declared.page.Page.{Page}
use Rattle.ld_talk.specs.Sending.{IsUnsent}
use Rattle.ld_talk.specs.Talking.{EndsSo, full_text, no_memory_text}
use Rattle.ld_talk.specs.declared.sending.SendRefusal.{SendRefusal}
use Rattle.ld_talk.specs.declared.sending.SendRefusal.TheVariants as refusal
use Rattle.ld_turn.specs.Known.{Known}
use Rattle.ld_visit.specs.Visits.{NotOpened, pages_in}
use Rattle.ld_session.specs.Serving.{IsFull, IsTurnedAway, TurnsAway, WasFull}
use Rattle.ld_session.proofs.Closing.{pages_front, pages_on}

pub unsent_none : {A : Type 0} (text : List ℕ) (r : Result A SendRefusal) (sink sink' : Outgoing) → r ≡ Err refusal.NoMemory → IfErr r (IsUnsent text sink sink') → sink' ≡ sink
unsent_none text r sink sink' is h = subst (λ x. IfErr x (IsUnsent text sink sink')) is h

-- ---- a history without room
same_full : (a b : ℕ) → Some (open_answer.HistoryFull a) ≡ Some (open_answer.HistoryFull b) → a ≡ b
same_full a b e = cc

module _ (limits : Limits) (store : Store) (seat events : ℕ) where
  by_room : (b : Bool) → history_has_room limits store ≡ b
      → option_map (λ (t : Taken OpenAnswer). t.answer) (Some (if b then steps.taken (open_answer.Opened (store.opened + 1)) (steps.plain (event.Opened (store.opened + 1) seat) ∷ []) else steps.taken (open_answer.HistoryFull store.events) []))
      ≡ Some (open_answer.HistoryFull events) → (history_has_room limits store ≡ false) × (store.events ≡ events)
  by_room true is e = cc
  by_room false is e = (is, same_full store.events events e)

  by_seat : (b : Bool) → option_map (λ (t : Taken OpenAnswer). t.answer) (steps.where_ b (steps.opening limits store seat)) ≡ Some (open_answer.HistoryFull events)
      → (history_has_room limits store ≡ false) × (store.events ≡ events)
  by_seat true e = by_room (history_has_room limits store) refl e
  by_seat false e = cc

module _ (seat later : Known Line) (refused : RoomRefusal) (n : NotOpened seat later refused) where
  full_found : (events : ℕ) → refused ≡ room.HistoryFull events → IsFull n.found.limits n.found.pages events
  full_found events is =
      let store = state (entries_of n.found.pages) in
      let none = by_seat n.found.limits store seat.number events (nat_lt seat.number 256 && not (is_taken store seat.number)) (subst (IsRefusal open_answer.HistoryFull (open_step (history_of n.found) seat.number)) is n.refused) in
      let counted = events_counted n.found.limits (entries_of n.found.pages) n.finds.sound.within.held (by_turns n.found.limits (entries_of n.found.pages) n.finds.sound.legal) in
      record { count = sym (length-map n.found.pages (λ (p : Page). p.entry)) ∙ sym counted ∙ none.1; full = none.0 }

  module _ (book : Booked) (grows : IsPrefix later.front (lines_of book)) where
    pub was_full : (events : ℕ) → refused ≡ room.HistoryFull events → WasFull n.found.limits (pages_in seat.front) book.pages events
    was_full events is = record {
      front = n.found.pages;
      seen = pages_on seat.front n.found.limits n.found.pages n.finds.grows;
      grows = pages_front n.found.limits n.found.pages book.limits book.pages (subst (λ (l : Lines). IsPrefix l (lines_of book)) n.front_is grows);
      full = full_found events is;
    }

  -- what went out
  abbrev pub went_away : (sink sink' : Outgoing) (e : SessionEnd) → TurnsAway refused sink sink' e → List ℕ
  went_away sink sink' (end.HistoryFull events) h = full_text events
  went_away sink sink' end.WriteFault h = take h.2.0 (full_text h.0)
  went_away sink sink' end.NoMemory h = take h.0 no_memory_text
  went_away sink sink' _ h = []

  pub goes_away : (sink sink' : Outgoing) (e : SessionEnd) (h : TurnsAway refused sink sink' e) → Goes sink sink' (went_away sink sink' e h)
  goes_away sink sink' (end.HistoryFull events) h = h.1
  goes_away sink sink' end.WriteFault h = h.2.2
  goes_away sink sink' end.NoMemory h = h.1
  goes_away sink sink' _ h = absurd h

  pub ends_away : (sink sink' : Outgoing) (source : Incoming) (e : SessionEnd) (h : TurnsAway refused sink sink' e) (book : Booked) → IsPrefix later.front (lines_of book)
      → EndsSo (WasFull n.found.limits (pages_in seat.front) book.pages) [] (went_away sink sink' e h) source [] [] e
  ends_away sink sink' source (end.HistoryFull events) h book grows = (was_full book grows events h.0, ([], inl refl, refl), λ d is. (d, refl))
  ends_away sink sink' source end.WriteFault h book grows = ([], inl refl, inr (h.0, was_full book grows h.0 h.1, (h.2.0, refl)), λ d is. (d, refl))
  ends_away sink sink' source end.NoMemory h book grows = ([], [], inl refl, inl refl, (h.0, refl), λ d is. (d, refl))
  ends_away sink sink' source _ h book grows = absurd h

  pub turned_away : (sink sink' : Outgoing) (source : Incoming) (loader : Loading) (e : SessionEnd) (h : TurnsAway refused sink sink' e) (book : Booked) → IsPrefix later.front (lines_of book)
      → IsTurnedAway (pages_in seat.front) book.pages [] (went_away sink sink' e h) source loader loader e
  turned_away sink sink' source loader e h book grows = record { limits = n.found.limits; unread = refl; unchanged = refl; ends = ends_away sink sink' source e h book grows }
