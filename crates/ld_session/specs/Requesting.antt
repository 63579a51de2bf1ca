-- The code's own: what a request has come to between two turns.
use Rattle.std.specs.Prelude.{◌≡◌, ◌⊎◌, ◌≤◌, ℕ, List, Option, Some, None, Result}
use Rattle.std.specs.Arc.{arc_value}
use Rattle.ld_answer.specs.Answers.{answered}
use Rattle.ld_answer.specs.Bodies.{too_many_body}
use Rattle.ld_answer.specs.declared.envelope.Envelope.{Envelope}
use Rattle.ld_answer.specs.declared.op.Op.{Op}
use Rattle.ld_book.specs.Pages.{stock_of}
use Rattle.ld_book.specs.Pages.{Pages}
use Rattle.ld_book.specs.declared.answers.EvictAnswer as evicted
use Rattle.ld_book.specs.declared.answers.EvictAnswer.TheVariants as evict
use Rattle.ld_book.specs.declared.answers.LackAnswer as lacked
use Rattle.ld_book.specs.declared.answers.LackAnswer.TheVariants as lack
use Rattle.ld_book.specs.declared.answers.Pin.{Pin}
use Rattle.ld_book.specs.declared.answers.ReviseAnswer as revised
use Rattle.ld_book.specs.declared.answers.ReviseAnswer.TheVariants as revise
use Rattle.ld_fits.specs.Asks.{Asked}
use Rattle.ld_fits.specs.Play.{Lacking, Pinned, Reloading, Request, Stage, replied}
use Rattle.ld_flight.specs.Loads.{Loading}
use Rattle.ld_head.specs.declared.outcome.Outcome.{Outcome}
use Rattle.ld_head.specs.declared.outcome.Outcome.TheVariants as outcome
use Rattle.ld_history.specs.declared.session.Last.TheVariants as last
use Rattle.ld_moves.specs.Moving.{version_in}
use Rattle.ld_moves.specs.Standing.{HasPinned, IsOf, Stands}
use Rattle.ld_moves.specs.Stocks.{IsSound}
use Rattle.ld_rec.specs.declared.stop.Stop.{Stop}
use Rattle.ld_store.specs.Snapshots.{stock_at}
use Rattle.ld_talk.specs.Talking.{IsReplied}
use Rattle.ld_talk.specs.declared.requests.Replied.{Replied}
use Rattle.ld_talk.specs.declared.requests.Replied.TheVariants as replies
use Rattle.ld_book.specs.declared.answers.RoomRefusal.{RoomRefusal}
use Rattle.ld_book.specs.declared.answers.RoomRefusal.TheVariants as room
use Rattle.ld_tree.specs.declared.tree.Tree.{Tree}
use Rattle.ld_visit.specs.Ending.{HasCome, IsLeading}
use Rattle.ld_visit.specs.Visits.{Visiting}
use Rattle.ld_session.specs.Serving.{IsFull, Moved}
use Rattle.ld_session.specs.declared.attempts.Attempt.{Attempt}
use Rattle.ld_session.specs.declared.attempts.Attempt.TheVariants as attempt

-- the version that is pinned
abbrev pub version_of : Pin → ℕ
version_of pin = (arc_value pin.snapshot).version

-- what the algorithms give over it
abbrev pub given_at : Pin → Op → Envelope → Result Tree Stop
given_at pin op envelope = answered (stock_at (arc_value pin.snapshot)) op envelope

-- what comes of a request for which there was no room, or no memory, before its first pin
abbrev pub unmade_as : RoomRefusal → Replied
unmade_as (room.HistoryFull events) = replies.HistoryFull events
unmade_as room.NoMemory = replies.Unmade

-- The session has pinned this version, and the snapshot has what it has.
pub record Attempting (visit : Visiting) (pin : Pin) : Type 0 where
  pub sound : IsSound visit.limits visit.pages
  pub pinned : HasPinned visit.pages visit.session pin.request (version_of pin)
  pub current : version_of pin ≤ version_in visit.pages
  pub documents : (stock_at (arc_value pin.snapshot)).0 ≡ stock_of visit.pages (version_of pin)

-- a request stands over this pin
abbrev pub over : Op → Envelope → Pin → Request → Stage
over op envelope pin r = Pinned (record r { version = version_of pin }) op envelope (given_at pin op envelope)

-- The context that it lacked came, or was there.
abbrev pub MayPinAgain : Visiting → Type 0
MayPinAgain visit = Stands visit.pages visit.session last.Found ⊎ HasCome visit.pages visit.session

-- ---- what the book answered

-- How the session stands after a lack of the context, by its answer,
abbrev pub Lacked : Pages → ℕ → List ℕ → lacked.LackAnswer → Type 0
Lacked pages session iri lack.There = Stands pages session last.Found
Lacked pages session iri (lack.Joined flight) = Stands pages session (last.Joined flight) × IsOf pages flight iri
Lacked pages session iri (lack.Lead pass) = Stands pages session (last.Led pass.number) × IsLeading pages session pass × IsOf pages pass.number iri
Lacked pages session iri _ = Stands pages session last.Idle

-- and at which stage its request is.
abbrev pub lacked_to : Request → Op → Envelope → List ℕ → lacked.LackAnswer → Stage
lacked_to r op envelope iri (lack.TooMany held) = replied r (Some (outcome.TooMany (too_many_body iri)))
lacked_to r op envelope iri lack.StoreFull = replied r (Some outcome.StoreFull)
lacked_to r op envelope iri (lack.ArchiveFull bytes) = replied r (Some (outcome.ArchiveFull bytes))
lacked_to r op envelope iri _ = Lacking r op envelope iri

-- The same for a revision.
abbrev pub Revised : Pages → ℕ → List ℕ → revised.ReviseAnswer → Type 0
Revised pages session iri (revise.Lead pass) = Stands pages session (last.ReviseLed pass.number) × IsLeading pages session pass × IsOf pages pass.number iri
Revised pages session iri _ = Stands pages session last.Idle

abbrev pub revised_to : Request → List ℕ → revised.ReviseAnswer → Stage
revised_to r iri (revise.Lead pass) = Reloading r iri
revised_to r iri (revise.NotStored version) = replied r (Some (outcome.NotStored version))
revised_to r iri (revise.Flying flight) = replied r (Some (outcome.Flying flight))
revised_to r iri (revise.ArchiveFull bytes) = replied r (Some (outcome.ArchiveFull bytes))

-- What an eviction is answered.
abbrev pub evicted_as : evicted.EvictAnswer → Outcome
evicted_as (evict.Evicted version) = outcome.Evicted version
evicted_as (evict.NotStored version) = outcome.NotStored version
evicted_as (evict.Held session) = outcome.Held session
evicted_as (evict.Revising flight) = outcome.Revising flight

-- ---- what came of a request

module _ (visit later : Visiting) (before after : Loading) where
  -- the request was answered with this outcome, whichever it was
  abbrev pub Ends : (from : Request → Stage) → Outcome → Type 0
  Ends from outcome = Stands later.pages later.session last.Idle × ((r : Request) → Moved visit later before after (from r) (replied r (Some outcome)))

  -- a request over this version was
  abbrev pub EndsAt : (version : ℕ) → (from : Request → Stage) → Outcome → Type 0
  EndsAt version from outcome =
      Stands later.pages later.session last.Idle
      × ((r : Request) → Moved visit later before after (from (record r { version = version })) (replied (record r { version = version }) (Some outcome)))

  -- What came of a context that an evaluation lacked: the request's outcome; or it lacks the context no more, and may pin
  -- again.
  abbrev pub Brought : Op → Envelope → (iri : List ℕ) → (from : Request → Stage) → Option Outcome → Type 0
  Brought op envelope iri from (Some outcome) = Ends from outcome
  Brought op envelope iri from None = MayPinAgain later × ((r : Request) → Moved visit later before after (from r) (Lacking r op envelope iri))

  -- What came of an attempt: the request's outcome, or its next pin.
  abbrev pub Tried : Op → Envelope → (from : Request → Stage) → Attempt → Type 0
  Tried op envelope from (attempt.Answered outcome) = Ends from outcome
  Tried op envelope from (attempt.Again next) = Attempting later next × ((r : Request) → Moved visit later before after (from r) (over op envelope next r))

  -- What came of all attempts from a pin on: the outcome, over the version of the last one.
  abbrev pub TriedOut : Op → Envelope → Pin → (version : ℕ) → Outcome → Type 0
  TriedOut op envelope pin version outcome =
      Stands later.pages later.session last.Idle × ((r : Request) → Moved visit later before after (over op envelope pin r) (replied (record r { version = version }) (Some outcome)))

  -- A request was asked for, and this came of it.
  pub record Requested (asked : Asked) (r : Replied) : Type 0 where
    pub lock_is : later.lock ≡ visit.lock
    pub idle : Stands later.pages later.session last.Idle
    pub replied : IsReplied (Moved visit later before after) (IsFull later.limits later.pages) asked r
