-- Which step a session took over the book that it found, by the answer of its call, and the pages then.
use Rattle.std.specs.Prelude.{◌≡◌, ℕ, Option, Some, Result, Ok, Err}
use Rattle.std.specs.Arc.{arc_value}
use Rattle.std.specs.Option.{option_map}
use Rattle.ld_store.specs.Snapshots.{stock_at}
use Rattle.ld_flight.specs.Readied.{Readied}
use Rattle.ld_history.specs.Rules.{end_of}
use Rattle.ld_history.specs.Steps.{Answers, Taken, pin_step, publish_step}
use Rattle.ld_history.specs.declared.answers.PinAnswer.TheVariants as pin_answer
use Rattle.ld_book.specs.Pages.{Booked, Pages, after_answer, after_step, given_of, history_of, state_of, stock_of}
use Rattle.ld_book.specs.Said.{IsRefusal, Says, told_end, told_publish}
use Rattle.ld_book.specs.declared.answers.LookAnswer.{LookAnswer}
use Rattle.ld_book.specs.declared.answers.Pin.{Pin}
use Rattle.ld_book.specs.declared.answers.PublishAnswer.{PublishAnswer}
use Rattle.ld_book.specs.declared.answers.RoomRefusal.{RoomRefusal}

-- a step that always is taken
abbrev pub Takes : {A : Type 0} → (Booked → Option (Taken A)) → Booked → Pages → Type 0
Takes step found pages = (t : Taken _) × (step found ≡ Some t) × (pages ≡ (after_step found (step found)).pages)

-- one that is taken where there was memory
abbrev pub TakesOr : {A B E : Type 0} → (A → B) → (Booked → Option (Taken A)) → Result B E → Booked → Pages → Type 0
TakesOr told step (Ok answer) found pages = Says told (step found) answer × (pages ≡ (after_step found (step found)).pages)
TakesOr told step (Err refusal) found pages = pages ≡ found.pages

-- A pin: what is pinned has the stock of its version.
abbrev pub Pins : ℕ → Result Pin RoomRefusal → Booked → Pages → Type 0
Pins session (Ok pin) found pages =
    Answers (pin_step (history_of found) session) (pin_answer.Pinned pin.request pin.attempt (arc_value pin.snapshot).version)
    × (pages ≡ (after_step found (pin_step (history_of found) session)).pages)
    × ((stock_at (arc_value pin.snapshot)).0 ≡ stock_of pages (arc_value pin.snapshot).version)
Pins session (Err refusal) found pages = IsRefusal pin_answer.HistoryFull (pin_step (history_of found) session) refusal × (pages ≡ found.pages)

-- An answer of the loader, which comes with its document.
abbrev pub Lands : {E : Type 0} → Readied → Result PublishAnswer E → Booked → Pages → Type 0
Lands ready (Ok answer) found pages =
    Says told_publish (publish_step (history_of found) ready.pass.number (given_of ready)) answer
    × (pages ≡ (after_answer found (publish_step (history_of found) ready.pass.number (given_of ready)) ready.doc).pages)
Lands ready (Err refusal) found pages = pages ≡ found.pages

-- a look at a flight, which leaves all as it is
abbrev pub Looks : ℕ → LookAnswer → Booked → Pages → Type 0
Looks flight answer found pages = (option_map told_end (end_of (state_of found) flight) ≡ Some answer) × (pages ≡ found.pages)
