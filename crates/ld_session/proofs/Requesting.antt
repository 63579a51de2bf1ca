-- What a request comes to, from its first pin on.
use Rattle.std.proofs.Common.{◌≡◌, ◌∙◌, ℕ, ◌+◌, ◌≤◌, true, false, Bool, List, [], ◌∷◌, ◌++◌, length, refl, sym, ap, subst, if◌then◌else◌}
use Rattle.std.specs.Arc.{arc_value}
use Rattle.std.specs.Prelude.{Option, Some, None, Ok, Err, Result}
use Rattle.std.specs.Option.{option_map}
use Rattle.std.proofs.lemmas.List.{length-map}
use Rattle.ld_answer.specs.Answers.{answered}
use Rattle.ld_answer.specs.declared.envelope.Envelope.{Envelope}
use Rattle.ld_answer.specs.declared.op.Op.{Op}
use Rattle.ld_fits.specs.Asks.{Asked, Evaluation, Heard, Revision, Eviction}
use Rattle.ld_fits.specs.Play.{Evicting, Idle, Lacking, Pinned, Request, Revising, Stage, begun, replied, result}
use Rattle.ld_flight.specs.Loads.{Loading}
use Rattle.ld_head.specs.declared.outcome.Outcome.{Outcome}
use Rattle.ld_history.specs.Legal.{state}
use Rattle.ld_history.specs.Rules as rules
use Rattle.ld_history.specs.Steps as steps
use Rattle.ld_history.specs.Steps.{Answers, Taken, answer_step, pin_step}
use Rattle.ld_history.specs.Store.{Store}
use Rattle.ld_history.specs.Words.{at_iri, at_number, history_has_room, is_idle}
use Rattle.ld_history.specs.declared.answers.PinAnswer.{PinAnswer}
use Rattle.ld_history.specs.declared.answers.PinAnswer.TheVariants as pin_answer
use Rattle.ld_history.specs.declared.event.How.TheVariants as how
use Rattle.ld_history.specs.declared.limits.Limits.{Limits}
use Rattle.ld_history.specs.declared.session.Last.TheVariants as last
use Rattle.ld_history.specs.declared.session.Session.{Session}
use Rattle.ld_history.proofs.LawHolds.{events_counted}
use Rattle.ld_history.proofs.LawTold.{by_turns}
use Rattle.ld_book.specs.Pages.{Booked, Pages, entries_of, history_of}
use Rattle.ld_book.specs.declared.answers.Pin.{Pin}
use Rattle.ld_book.specs.declared.answers.RoomRefusal.{RoomRefusal}
use Rattle.ld_book.specs.declared.answers.RoomRefusal.TheVariants as room
use Rattle.ld_book.specs.declared.page.Page.{Page}
use Rattle.ld_moves.specs.Moving.{Finds}
use Rattle.ld_moves.specs.Standing.{HasPinned, Stands}
use Rattle.ld_moves.specs.Stocks.{stocks}
use Rattle.ld_moves.proofs.Snapshots.{snapshot_is}
use Rattle.ld_moves.proofs.Staying.{lacked_in_stock}
use Rattle.ld_lacks.proofs.Lacking.{lacked}
use Rattle.ld_lacks.proofs.ShortAnswers.{short}
use Rattle.ld_rec.specs.declared.stop.Stop.TheVariants as stop
use Rattle.ld_store.specs.Snapshots.{Shot, stock_at}
use Rattle.ld_talk.specs.Judging.{IsJudged}
use Rattle.ld_talk.specs.declared.judging.Judged.{Judged}
use Rattle.ld_talk.specs.Talking.{IsReplied}
use Rattle.ld_talk.specs.declared.requests.Replied.{Replied}
use Rattle.ld_talk.specs.declared.requests.Replied.TheVariants as replies
use Rattle.ld_tree.specs.Maps.{find}
use Rattle.ld_visit.specs.Ending.{MayLack}
use Rattle.ld_visit.specs.Taking.{Pins, Takes}
use Rattle.ld_visit.specs.Visits.{Took, Visiting}
use Rattle.ld_session.specs.Requesting.{Attempting, Brought, Ends, EndsAt, Requested, Tried, TriedOut, given_at, over, unmade_as, version_of}
use Rattle.ld_session.specs.declared.attempts.Attempt.{Attempt}
use Rattle.ld_session.specs.declared.attempts.Attempt.TheVariants as attempt
use Rattle.ld_session.specs.Serving.{IsFull, Moved, Moving}
use Rattle.ld_session.specs.Adding.{moved_more, moved_none}
use Rattle.ld_session.proofs.Turning.{answered_idle, answered_moved, pinned_attempting, pinned_moved, refused_idle, refused_moved}

-- some request
pub some_request : Request
some_request = record { number = 0; version = 0; marks = record { interim = false; closes = false; head_alone = false }; items = []; text = [] }

-- ---- what an attempt lacks, it may lack
pub may_lack : (visit : Visiting) (pin : Pin) (at : Attempting visit pin) (iri : List ℕ) → find (stock_at (arc_value pin.snapshot)) iri ≡ None → length iri ≤ 2048 → MayLack visit.pages visit.session iri
may_lack visit pin at iri none short = record {
  request = pin.request;
  version = version_of pin;
  pinned = at.pinned;
  current = at.current;
  without = lacked_in_stock visit.pages (version_of pin) iri at.sound.documents (subst (λ es. at_iri es iri ≡ None) at.documents none);
  short = short;
}

-- ---- a request that pinned no version
same_full : (a b : ℕ) → pin_answer.HistoryFull a ≡ pin_answer.HistoryFull b → a ≡ b
same_full a b e = cc

some_answer : (a b : PinAnswer) → Some a ≡ Some b → a ≡ b
some_answer a b e = cc

module _ (limits : Limits) (store : Store) (session events : ℕ) where
  abbrev HasNone : Type 0
  HasNone = (history_has_room limits store ≡ false) × (store.events ≡ events)

  by_room : (s : Session) (b : Bool) → history_has_room limits store ≡ b
      → (if b then steps.pinned store session (s.request + 1) 1 else steps.taken (pin_answer.HistoryFull store.events) []).answer ≡ pin_answer.HistoryFull events → HasNone
  by_room s true is e = cc
  by_room s false is e = (is, same_full store.events events e)

  by_again : (s : Session) (b : Bool) → option_map (λ (t : Taken PinAnswer). t.answer) (steps.where_ b (steps.pinned store session s.request (s.attempt + 1))) ≡ Some (pin_answer.HistoryFull events) → HasNone
  by_again s true e = cc
  by_again s false e = cc

  by_idle : (s : Session) (b : Bool)
      → option_map (λ (t : Taken PinAnswer). t.answer) (if b then Some (steps.pinning_first limits store session s) else steps.where_ (rules.may_pin_again store s.last) (steps.pinned store session s.request (s.attempt + 1))) ≡ Some (pin_answer.HistoryFull events)
      → HasNone
  by_idle s true e = by_room s (history_has_room limits store) refl (some_answer (steps.pinning_first limits store session s).answer (pin_answer.HistoryFull events) e)
  by_idle s false e = by_again s (rules.may_pin_again store s.last) e

  by_session : (o : Option Session) → option_map (λ (t : Taken PinAnswer). t.answer) (steps.of_found (steps.pinning limits store session) o) ≡ Some (pin_answer.HistoryFull events) → HasNone
  by_session None e = cc
  by_session (Some s) e = by_idle s (is_idle s.last) e

full_found : (session : ℕ) (limits : Limits) (front : Pages) (found : Booked) → Finds session limits front found → (events : ℕ) → Answers (pin_step (history_of found) session) (pin_answer.HistoryFull events) → IsFull limits found.pages events
full_found session limits front found f events is =
    let none = by_session found.limits (state (entries_of found.pages)) session events (at_number (state (entries_of found.pages)).sessions session) is in
    let counted = events_counted limits (entries_of found.pages) f.sound.within.held (by_turns limits (entries_of found.pages) f.sound.legal) in
    record { count = sym (length-map found.pages (λ (p : Page). p.entry)) ∙ sym counted ∙ none.1; full = subst (λ (l : Limits). history_has_room l (state (entries_of found.pages)) ≡ false) f.limits_are none.0 }

pub unmade_requested : (visit later : Visiting) (refusal : RoomRefusal) (t : Took visit later (Pins visit.session (Err refusal))) → Stands visit.pages visit.session last.Idle → (loader : Loading) (asked : Asked)
    → Requested visit later loader loader asked (unmade_as refusal)
unmade_requested visit later room.NoMemory t idle loader asked = record { lock_is = t.lock_is; idle = refused_idle visit later room.NoMemory t last.Idle idle; replied = λ stage. refused_moved visit later room.NoMemory t stage loader }
unmade_requested visit later (room.HistoryFull events) t idle loader asked = record {
  lock_is = t.lock_is;
  idle = refused_idle visit later (room.HistoryFull events) t last.Idle idle;
  replied = (
    subst (λ (l : Limits). IsFull l later.pages events) (sym t.limits_are)
        (subst (λ (p : Pages). IsFull visit.limits p events) (sym t.took.1) (full_found visit.session visit.limits visit.pages t.found t.finds events t.took.0)),
    λ stage. refused_moved visit later (room.HistoryFull events) t stage loader,
  );
}

-- ---- from the first pin
module _ (visit later : Visiting) (pin : Pin) (t : Took visit later (Pins visit.session (Ok pin))) (h : Heard) (items : List Heard) (text : List ℕ) where
  abbrev request : Request
  request = record { number = pin.request; version = version_of pin; marks = h.marked.marks; items = items; text = text }

  pub begun_moved : (asked : Asked) → h.asked ≡ asked → (loader : Loading) → Moved visit later loader loader (Idle (h ∷ items) text) (begun visit.limits (stocks later.pages) asked request)
  begun_moved asked is loader = subst (λ a. Moved visit later loader loader (Idle (h ∷ items) text) (begun visit.limits (stocks later.pages) a request)) is (pinned_moved visit later pin t (Idle (h ∷ items) text) loader)

  -- an evaluation stands over it
  pub begun_over : (op : Op) (envelope : Envelope) → h.asked ≡ Evaluation op envelope → (loader : Loading) → Moved visit later loader loader (Idle (h ∷ items) text) (over op envelope pin request)
  begun_over op envelope is loader =
      subst (λ s. Moved visit later loader loader (Idle (h ∷ items) text) (Pinned request op envelope (answered s op envelope)))
      (sym (snapshot_is (arc_value pin.snapshot) later.pages (version_of pin) (pinned_attempting visit later pin t).documents)) (begun_moved (Evaluation op envelope) is loader)

-- the next pin of an evaluation
pub again_over : (visit later : Visiting) (pin : Pin) (t : Took visit later (Pins visit.session (Ok pin))) (loader : Loading) (op : Op) (envelope : Envelope) (iri : List ℕ) (r : Request)
    → Moved visit later loader loader (Lacking r op envelope iri) (over op envelope pin r)
again_over visit later pin t loader op envelope iri r =
    subst (λ s. Moved visit later loader loader (Lacking r op envelope iri) (Pinned (record r { version = version_of pin }) op envelope (answered s op envelope)))
    (sym (snapshot_is (arc_value pin.snapshot) later.pages (version_of pin) (pinned_attempting visit later pin t).documents)) (pinned_moved visit later pin t (Lacking r op envelope iri) loader)

-- ---- an attempt
abbrev at_pin : Op → Envelope → Pin → Request → Stage
at_pin op envelope pin r = Pinned r op envelope (given_at pin op envelope)

-- what an evaluation gave
pub judged_over : (pin : Pin) (op : Op) (envelope : Envelope) (shot : Shot) → shot ≡ arc_value pin.snapshot → (j k : Judged) → k ≡ j → IsJudged (answered (stock_at shot) op envelope) k → IsJudged (given_at pin op envelope) j
judged_over pin op envelope shot is j k same h = subst (λ x. IsJudged (given_at pin op envelope) x) same (subst (λ x. IsJudged (answered (stock_at x) op envelope) k) is h)

pub attempt_done : (visit later : Visiting) (t : Took visit later (Takes (λ found. answer_step (history_of found) visit.session how.Done))) (op : Op) (envelope : Envelope) (pin : Pin) (outcome : Outcome) (loader : Loading)
    → result (given_at pin op envelope) ≡ Some outcome → Ends visit later loader loader (λ r. Pinned r op envelope (given_at pin op envelope)) outcome
attempt_done visit later t op envelope pin outcome loader is = (
  answered_idle visit later how.Done t,
  λ r. subst (λ o. Moved visit later loader loader (at_pin op envelope pin r) (replied r o)) is (answered_moved visit later how.Done t (at_pin op envelope pin r) loader),
)

pub attempt_lacks : (visit : Visiting) (pin : Pin) → Attempting visit pin → (op : Op) (envelope : Envelope) (iri : List ℕ) → given_at pin op envelope ≡ Err (stop.Missing iri) → MayLack visit.pages visit.session iri
attempt_lacks visit pin at op envelope iri is =
    let stock = stock_at (arc_value pin.snapshot) in may_lack visit pin at iri (lacked stock iri op envelope is) (short stock iri op envelope is)

module _ (visit mid : Visiting) (x y : Loading) (op : Op) (envelope : Envelope) (pin : Pin) (iri : List ℕ) (is : given_at pin op envelope ≡ Err (stop.Missing iri)) where
  pub attempt_brought : (o : Option Outcome) → Brought visit mid x y op envelope iri (λ r. Pinned r op envelope (Err (stop.Missing iri))) o → Brought visit mid x y op envelope iri (at_pin op envelope pin) o
  attempt_brought o h = subst (λ e. Brought visit mid x y op envelope iri (λ r. Pinned r op envelope e) o) (sym is) h

  pub attempt_again : (later : Visiting) (z : Loading) → Brought visit mid x y op envelope iri (λ r. Pinned r op envelope (Err (stop.Missing iri))) None → (a : Attempt) → Tried mid later y z op envelope (λ r. Lacking r op envelope iri) a
      → Tried visit later x z op envelope (λ r. Pinned r op envelope (given_at pin op envelope)) a
  attempt_again later z b (attempt.Answered outcome) h = (
    h.0,
    λ r. moved_more visit mid later x y z (at_pin op envelope pin r) (Lacking r op envelope iri) (replied r (Some outcome)) ((attempt_brought None b).1 r) (h.1 r),
  )
  attempt_again later z b (attempt.Again next) h = (
    h.0,
    λ r. moved_more visit mid later x y z (at_pin op envelope pin r) (Lacking r op envelope iri) (over op envelope next r) ((attempt_brought None b).1 r) (h.1 r),
  )

-- ---- attempt after attempt

-- from the first pin to this one
pub record Trying (visit later : Visiting) (before after : Loading) (op : Op) (envelope : Envelope) (first pin : Pin) : Type 0 where
  pub at : Attempting later pin
  pub moved : (r : Request) → Moved visit later before after (over op envelope first r) (over op envelope pin r)

pub trying_first : (visit : Visiting) (loader : Loading) (op : Op) (envelope : Envelope) (first : Pin) → Attempting visit first → Trying visit visit loader loader op envelope first first
trying_first visit loader op envelope first at = record { at = at; moved = λ r. moved_none visit loader (over op envelope first r) at.sound }

module _ (visit mid later : Visiting) (x y z : Loading) (op : Op) (envelope : Envelope) (first pin : Pin) (t : Trying visit mid x y op envelope first pin) where
  pub trying_next : (next : Pin) → Tried mid later y z op envelope (λ r. Pinned r op envelope (given_at pin op envelope)) (attempt.Again next) → Trying visit later x z op envelope first next
  trying_next next h = record {
    at = h.0;
    moved = λ r. let at : Request = record r { version = version_of pin } in moved_more visit mid later x y z (over op envelope first r) (over op envelope pin r) (over op envelope next r) (t.moved r) (h.1 at);
  }

  pub trying_done : (outcome : Outcome) → Tried mid later y z op envelope (λ r. Pinned r op envelope (given_at pin op envelope)) (attempt.Answered outcome) → TriedOut visit later x z op envelope first (version_of pin) outcome
  trying_done outcome h = (
    h.0,
    λ r. let at : Request = record r { version = version_of pin } in moved_more visit mid later x y z (over op envelope first r) (over op envelope pin r) (replied at (Some outcome)) (t.moved r) (h.1 at),
  )

-- ---- a request that was answered
module _ (visit mid later : Visiting) (pin : Pin) (t : Took visit mid (Pins visit.session (Ok pin))) (before after : Loading) where
  pub evaluation_requested : (op : Op) (envelope : Envelope) (version : ℕ) (outcome : Outcome) → TriedOut mid later before after op envelope pin version outcome
      → Requested visit later before after (Evaluation op envelope) (replies.Answered pin.request version outcome)
  evaluation_requested op envelope version outcome e = record {
    lock_is = (e.1 some_request).lock_is ∙ t.lock_is;
    idle = e.0;
    replied = λ h items text is.
        let r : Request = record { number = pin.request; version = version_of pin; marks = h.marked.marks; items = items; text = text } in
        moved_more visit mid later before before after (Idle (h ∷ items) text) (over op envelope pin r) (replied (record r { version = version }) (Some outcome)) (begun_over visit mid pin t h items text op envelope is before) (e.1 r);
  }

  pub revision_requested : (iri : List ℕ) (outcome : Outcome) → EndsAt mid later before after (version_of pin) (λ r. Revising r iri) outcome
      → Requested visit later before after (Revision iri) (replies.Answered pin.request (version_of pin) outcome)
  revision_requested iri outcome e = record {
    lock_is = (e.1 some_request).lock_is ∙ t.lock_is;
    idle = e.0;
    replied = λ h items text is.
        let r : Request = record { number = pin.request; version = version_of pin; marks = h.marked.marks; items = items; text = text } in
        moved_more visit mid later before before after (Idle (h ∷ items) text) (Revising r iri) (replied r (Some outcome)) (begun_moved visit mid pin t h items text (Revision iri) is before) (e.1 r);
  }

  pub eviction_requested : (iri : List ℕ) (outcome : Outcome) → Ends mid later before after (λ r. Evicting r iri) outcome
      → Requested visit later before after (Eviction iri) (replies.Answered pin.request (version_of pin) outcome)
  eviction_requested iri outcome e = record {
    lock_is = (e.1 some_request).lock_is ∙ t.lock_is;
    idle = e.0;
    replied = λ h items text is.
        let r : Request = record { number = pin.request; version = version_of pin; marks = h.marked.marks; items = items; text = text } in
        moved_more visit mid later before before after (Idle (h ∷ items) text) (Evicting r iri) (replied r (Some outcome)) (begun_moved visit mid pin t h items text (Eviction iri) is before) (e.1 r);
  }

-- in the form that a talk asks for
pub replied_moving : (visit later : Visiting) (before after : Loading) (asked : Asked) (r : Replied) → Requested visit later before after asked r → IsReplied (Moving visit later before after) (IsFull later.limits later.pages) asked r
replied_moving visit later before after asked (replies.Answered number version outcome) q = λ h items text is sound. q.replied h items text is
replied_moving visit later before after asked replies.Unmade q = λ stage sound. q.replied stage
replied_moving visit later before after asked (replies.HistoryFull events) q = (q.replied.0, λ stage sound. q.replied.1 stage)
