-- Where each of a session's own entries leads: which entry may come next in answer to its items, and what text is due by
-- then. An evaluation is answered as the algorithms say over the stock of the version that it pinned last.
use Rattle.std.specs.Prelude.{ℕ, ◌==◌, nat_lt, Bool, true, false, not, ◌&&◌, List, [], ◌∷◌, ◌++◌, length, Option, Some, None, Result, Ok, Err, if◌then◌else◌}
use Rattle.ld_answer.specs.Answers.{answered}
use Rattle.ld_answer.specs.Bodies.{code_body, own_body, too_many_body, load_fault_body}
use Rattle.ld_answer.specs.declared.envelope.Envelope.{Envelope}
use Rattle.ld_answer.specs.declared.op.Op.{Op}
use Rattle.ld_head.specs.Outcomes.{reply}
use Rattle.ld_head.specs.Replies.{interim_text, text_if}
use Rattle.ld_head.specs.declared.dialogue.Marks.{Marks}
use Rattle.ld_head.specs.declared.outcome.Outcome.{Outcome}
use Rattle.ld_head.specs.declared.outcome.Outcome.TheVariants as outcome
use Rattle.ld_history.specs.Rules.{on_session, is_full, is_least_holder}
use Rattle.ld_history.specs.Store.{Store}
use Rattle.ld_history.specs.Words.{archive_has_room, at_iri, flight_at, is_held, is_led, is_revised, is_some_and, is_stored, same_iri}
use Rattle.ld_history.specs.declared.event.Event.{Event}
use Rattle.ld_history.specs.declared.event.Event.TheVariants as event
use Rattle.ld_history.specs.declared.event.How.{How}
use Rattle.ld_history.specs.declared.event.How.TheVariants as how
use Rattle.ld_history.specs.declared.limits.Limits.{Limits}
use Rattle.ld_history.specs.declared.session.End.{End}
use Rattle.ld_history.specs.declared.session.End.TheVariants as end
use Rattle.ld_history.specs.declared.session.Flight.{Flight}
use Rattle.ld_rec.specs.Outcome.{Stock}
use Rattle.ld_rec.specs.declared.stop.Stop.{Stop}
use Rattle.ld_rec.specs.declared.stop.Stop.TheVariants as stop
use Rattle.ld_tree.specs.declared.tree.Tree.{Tree}
use Rattle.ld_fits.specs.Asks.{Asked, Evaluation, Revision, Eviction, Unrecorded, Heard}
use Rattle.ld_own.specs.Own.{Placed}

-- ---- where a session stands

-- The request under way: its number, the version of its last pin, the marks of its item, the items after that one, and
-- the text that was due before it.
pub record Request : Type 0 where
  pub number : ℕ
  pub version : ℕ
  pub marks : Marks
  pub items : List Heard
  pub text : List ℕ

pub data Stage : Type 0 where
  -- nothing is appended yet, and these are the items
  Fresh : (items : List Heard) → Stage
  -- no request is under way, and the first of these items is one
  Idle : (items : List Heard) (text : List ℕ) → Stage
  -- an evaluation has pinned a version, over whose stock this is its answer
  Pinned : Request → Op → Envelope → (answer : Result Tree Stop) → Stage
  -- and a context went out, to make a place for the one that it lacks
  Placing : Request → Op → Envelope → (answer : Result Tree Stop) → Stage
  -- it has found, led or joined the context that it lacks
  Lacking : Request → Op → Envelope → (iri : List ℕ) → Stage
  -- a revision of this context has pinned a version, or led its flight
  Revising : Request → (iri : List ℕ) → Stage
  Reloading : Request → (iri : List ℕ) → Stage
  -- an eviction of this context has pinned a version, or was done
  Evicting : Request → (iri : List ℕ) → Stage
  Gone : Request → Stage
  -- the session is closed, and this is the whole text
  Shut : (text : List ℕ) → Stage
  -- no such entry may come
  Wrong : Stage

-- ---- texts

-- the text of an item: the interim text where it is due, and the reply
abbrev pub item_text : Option (ℕ × ℕ) → Outcome → Marks → List ℕ
item_text fields outcome marks = text_if marks.interim interim_text ++ reply fields outcome marks

-- What an item that stands in no history is answered with, if it is one. Its reply has no number and no version.
abbrev pub passed : Asked → Marks → Stage → (List ℕ → Stage) → Stage
passed (Unrecorded outcome) marks here after = after (item_text None outcome marks)
passed _ marks here after = here

-- no request is under way: what stands in no history is answered first
abbrev pub idle : List Heard → List ℕ → Stage
idle [] text = Idle [] text
idle (h ∷ items) text = passed h.asked h.marked.marks (Idle (h ∷ items) text) (λ own. idle items (text ++ own))

-- the request is answered so, with its number and the version of its last pin
abbrev pub replied : Request → Option Outcome → Stage
replied r None = Wrong
replied r (Some outcome) = idle r.items (r.text ++ item_text (Some (r.number, r.version)) outcome r.marks)

-- ---- an evaluation

-- what the algorithms gave
abbrev pub result : Result Tree Stop → Option Outcome
result (Ok tree) = Some (outcome.Result tree)
result (Err (stop.Code code)) = Some (outcome.Code (code_body code))
result (Err (stop.Own own)) = Some (outcome.Own (own_body own))
result (Err (stop.Missing iri)) = None
result (Err stop.NoMemory) = None

-- they lack a document, which passes
abbrev pub lacks_one : (List ℕ → Bool) → Result Tree Stop → Bool
lacks_one test (Err (stop.Missing iri)) = test iri
lacks_one test _ = false

abbrev pub lacks : List ℕ → Result Tree Stop → Bool
lacks iri answer = lacks_one (same_iri iri) answer

-- fewer contexts are held than a request may, and the one that is lacked is neither stored nor in a Lead flight
abbrev pub has_no_place : Limits → Store → ℕ → Result Tree Stop → Bool
has_no_place limits store session answer =
    on_session store session (λ s. nat_lt (length s.held) limits.held) && lacks_one (λ iri. not (is_stored store iri) && not (is_led store iri)) answer

-- the flight's load failed
abbrev pub fault_as : List ℕ → ℕ → End → Option Outcome
fault_as iri flight (end.Failed before after) = Some (outcome.LoadFault (load_fault_body iri flight before after))
fault_as iri flight _ = None

abbrev pub fault_of : List ℕ → ℕ → Option Flight → Option Outcome
fault_of iri flight None = None
fault_of iri flight (Some f) = if same_iri f.iri iri then fault_as iri flight f.end else None

-- The outcome, where this is what the request is answered with once it has pinned a version. Of too many contexts, a full
-- store and a full archive it is the first that is so.
abbrev pub outcome_pinned : Limits → Store → ℕ → Result Tree Stop → How (List ℕ) → Option Outcome
outcome_pinned limits store session answer how.Done = result answer
outcome_pinned limits store session answer how.NoMemory = Some outcome.NoMemory
outcome_pinned limits store session answer (how.TooMany iri) = if lacks iri answer then Some (outcome.TooMany (too_many_body iri)) else None
outcome_pinned limits store session answer how.StoreFull = if has_no_place limits store session answer && is_full limits store then Some outcome.StoreFull else None
outcome_pinned limits store session answer (how.ArchiveFull bytes) =
    if has_no_place limits store session answer && not (is_full limits store) && not (archive_has_room limits store) then Some (outcome.ArchiveFull bytes) else None
outcome_pinned limits store session answer _ = None

-- and once it has lacked a context
abbrev pub outcome_lacking : Store → List ℕ → How (List ℕ) → Option Outcome
outcome_lacking store iri how.NoMemory = Some outcome.NoMemory
outcome_lacking store iri (how.LoadFault flight) = fault_of iri flight (flight_at store.flights flight)
outcome_lacking store iri _ = None

-- ---- a revision

-- a flight under way loads the context anew
abbrev pub revises : Store → List ℕ → ℕ → Bool
revises store iri flight = is_some_and (λ f. f.flight == flight) (at_iri store.revisions iri)

abbrev pub outcome_revising : Store → List ℕ → How (List ℕ) → Option Outcome
outcome_revising store iri how.NoMemory = Some outcome.NoMemory
outcome_revising store iri (how.NotStored version) = if not (is_stored store iri) then Some (outcome.NotStored version) else None
outcome_revising store iri (how.Flying flight) = if is_stored store iri && revises store iri flight then Some (outcome.Flying flight) else None
outcome_revising store iri (how.ArchiveFull bytes) =
    if is_stored store iri && not (is_led store iri) && not (is_revised store iri) then Some (outcome.ArchiveFull bytes) else None
outcome_revising store iri _ = None

-- once it has led its flight; where the answer is the same, it stands at the version of the pin
abbrev pub outcome_reloading : Store → Request → List ℕ → How (List ℕ) → Option Outcome
outcome_reloading store r iri how.NoMemory = Some outcome.NoMemory
outcome_reloading store r iri (how.Revised version) = Some (outcome.Revised version)
outcome_reloading store r iri how.Same = Some (outcome.Same r.version)
outcome_reloading store r iri (how.LoadFault flight) = fault_of iri flight (flight_at store.flights flight)
outcome_reloading store r iri _ = None

-- ---- an eviction

abbrev pub outcome_evicting : Store → List ℕ → How (List ℕ) → Option Outcome
outcome_evicting store iri how.NoMemory = Some outcome.NoMemory
outcome_evicting store iri (how.NotStored version) = if not (is_stored store iri) then Some (outcome.NotStored version) else None
outcome_evicting store iri (how.Held session) = if is_stored store iri && is_least_holder store session iri then Some (outcome.Held session) else None
outcome_evicting store iri (how.Revising flight) =
    if is_stored store iri && not (is_held store iri) && revises store iri flight then Some (outcome.Revising flight) else None
outcome_evicting store iri _ = None

abbrev pub outcome_gone : How (List ℕ) → Option Outcome
outcome_gone (how.Evicted version) = Some (outcome.Evicted version)
outcome_gone _ = None

-- ---- the session's next entry

abbrev pub led_if : Bool → Request → Op → Envelope → List ℕ → Stage
led_if true r op envelope iri = Lacking r op envelope iri
led_if false r op envelope iri = Wrong

-- how a flight that it led ended: the session's next entry tells what comes of it
abbrev pub is_landing : Event (List ℕ) → Bool
is_landing (event.Published flight version) = true
is_landing (event.Same flight) = true
is_landing (event.Failed flight before after) = true
is_landing (event.Lapsed flight) = true
is_landing _ = false

abbrev pub if_landing : Event (List ℕ) → Stage → Stage
if_landing e stage = if is_landing e then stage else Wrong

abbrev pub closed : List Heard → List ℕ → Stage
closed [] text = Shut text
closed (h ∷ items) text = Wrong

abbrev pub step_fresh : List Heard → Event (List ℕ) → Stage
step_fresh items (event.Opened session seat) = idle items []
step_fresh items _ = Wrong

-- what is found, led or joined is the document that the algorithms lack
abbrev pub step_pinned : Limits → Store → Request → Op → Envelope → Result Tree Stop → Event (List ℕ) → Stage
step_pinned limits store r op envelope answer (event.Found session iri) = led_if (lacks iri answer) r op envelope iri
step_pinned limits store r op envelope answer (event.Led session iri flight) = led_if (lacks iri answer) r op envelope iri
step_pinned limits store r op envelope answer (event.Joined session iri flight) = led_if (lacks iri answer) r op envelope iri
step_pinned limits store r op envelope answer (event.Evicted session iri version) = Placing r op envelope answer
step_pinned limits store r op envelope answer (event.Answered session request how) = replied r (outcome_pinned limits store session answer how)
step_pinned limits store r op envelope answer _ = Wrong

abbrev pub step_placing : Request → Op → Envelope → Result Tree Stop → Event (List ℕ) → Stage
step_placing r op envelope answer (event.Led session iri flight) = led_if (lacks iri answer) r op envelope iri
step_placing r op envelope answer _ = Wrong

abbrev pub step_revising : Store → Request → List ℕ → Event (List ℕ) → Stage
step_revising store r iri (event.ReviseLed session own flight) = if same_iri own iri then Reloading r iri else Wrong
step_revising store r iri (event.Answered session request how) = replied r (outcome_revising store iri how)
step_revising store r iri _ = Wrong

abbrev pub step_reloading : Store → Request → List ℕ → Event (List ℕ) → Stage
step_reloading store r iri (event.Answered session request how) = replied r (outcome_reloading store r iri how)
step_reloading store r iri e = if_landing e (Reloading r iri)

abbrev pub step_evicting : Store → Request → List ℕ → Event (List ℕ) → Stage
step_evicting store r iri (event.Evicted session own version) = if same_iri own iri then Gone r else Wrong
step_evicting store r iri (event.Answered session request how) = replied r (outcome_evicting store iri how)
step_evicting store r iri _ = Wrong

abbrev pub step_gone : Request → Event (List ℕ) → Stage
step_gone r (event.Answered session request how) = replied r (outcome_gone how)
step_gone r _ = Wrong

module _ (limits : Limits) (stock : ℕ → Stock) where
  -- the first pin of a request
  abbrev pub begun : Asked → Request → Stage
  begun (Evaluation op envelope) r = Pinned r op envelope (answered (stock r.version) op envelope)
  begun (Revision iri) r = Revising r iri
  begun (Eviction iri) r = Evicting r iri
  begun (Unrecorded outcome) r = Wrong

  abbrev pub pinned : List Heard → List ℕ → (number version : ℕ) → Stage
  pinned [] text number version = Wrong
  pinned (h ∷ items) text number version = begun h.asked (record { number = number; version = version; marks = h.marked.marks; items = items; text = text })

  -- another one of an evaluation
  abbrev pub pinned_again : Request → Op → Envelope → ℕ → Stage
  pinned_again r op envelope version = Pinned (record r { version = version }) op envelope (answered (stock version) op envelope)

  abbrev pub step_idle : List Heard → List ℕ → Event (List ℕ) → Stage
  step_idle items text (event.Pinned session request attempt version) = pinned items text request version
  step_idle items text (event.Closed session) = closed items text
  step_idle items text _ = Wrong

  abbrev pub step_lacking : Store → Request → Op → Envelope → List ℕ → Event (List ℕ) → Stage
  step_lacking store r op envelope iri (event.Pinned session request attempt version) = pinned_again r op envelope version
  step_lacking store r op envelope iri (event.Answered session request how) = replied r (outcome_lacking store iri how)
  step_lacking store r op envelope iri e = if_landing e (Lacking r op envelope iri)

  abbrev pub step : Store → Stage → Event (List ℕ) → Stage
  step store (Fresh items) e = step_fresh items e
  step store (Idle items text) e = step_idle items text e
  step store (Pinned r op envelope answer) e = step_pinned limits store r op envelope answer e
  step store (Placing r op envelope answer) e = step_placing r op envelope answer e
  step store (Lacking r op envelope iri) e = step_lacking store r op envelope iri e
  step store (Revising r iri) e = step_revising store r iri e
  step store (Reloading r iri) e = step_reloading store r iri e
  step store (Evicting r iri) e = step_evicting store r iri e
  step store (Gone r) e = step_gone r e
  step store (Shut text) e = Wrong
  step store Wrong e = Wrong

  -- the next of the session's own entries
  abbrev pub play : Stage → Placed → Stage
  play stage p = step p.before stage p.entry.event
