-- The code's own: what a round has done between two of its visits.
use Rattle.std.specs.Prelude.{◌≡◌, ◌+◌, ◌≤◌, ℕ, List, [], ◌∷◌, ◌++◌, length, Result, Ok, Err}
use mathlib.Core.List.{IsPrefix}
use Rattle.ld_fits.specs.Fits.{AgreeUpTo}
use Rattle.ld_flight.specs.Loads.{Loading}
use Rattle.ld_flight.specs.declared.given.Given as loader
use Rattle.ld_head.specs.declared.outcome.Outcome.{Outcome}
use Rattle.ld_history.specs.declared.session.Last.TheVariants as last
use Rattle.ld_book.specs.Pages.{Pages, entries_of}
use Rattle.ld_book.specs.declared.answers.RoomRefusal.{RoomRefusal}
use Rattle.ld_book.specs.declared.answers.RoomRefusal.TheVariants as room
use Rattle.ld_moves.specs.Moving.{version_in}
use Rattle.ld_moves.specs.Standing.{Stands}
use Rattle.ld_moves.specs.Stocks.{IsSound, stocks}
use Rattle.ld_own.specs.Adding.{Adds}
use Rattle.ld_own.specs.Loads.{Gained, Spans}
use Rattle.ld_own.specs.Own.{Placed}
use Rattle.ld_rec.specs.Outcome.{Stock}
use Rattle.ld_session.specs.Serving.{IsFull}
use Rattle.ld_visit.specs.Visits.{Visiting}
use Rattle.ld_revise.specs.Rounds.{Come, Ends, IsTally, Revises, count, first_names, is_failed, is_refused, is_revised, is_same}
use Rattle.ld_revise.specs.declared.round.RoundEnd.{RoundEnd}
use Rattle.ld_revise.specs.declared.round.RoundEnd.TheVariants as ending
use Rattle.ld_revise.specs.declared.tally.Tally.{Tally}

-- ---- counts
abbrev pub nothing : Tally
nothing = record { revised = 0; same = 0; failed = 0; refused = 0 }

abbrev pub total : Tally → ℕ
total t = t.revised + t.same + t.failed + t.refused

-- the later tally has these answers more
pub record Sums (t : Tally) (outcomes : List Outcome) (later : Tally) : Type 0 where
  pub revised : later.revised ≡ t.revised + count is_revised outcomes
  pub same : later.same ≡ t.same + count is_same outcomes
  pub failed : later.failed ≡ t.failed + count is_failed outcomes
  pub refused : later.refused ≡ t.refused + count is_refused outcomes
  pub whole : total later ≡ total t + length outcomes

-- how a round ends that can't pin a version
abbrev pub end_by : RoomRefusal → RoundEnd
end_by (room.HistoryFull events) = ending.HistoryFull events
end_by room.NoMemory = ending.NoMemory

-- ---- on its way

-- Between these visits the session's entries are these, and its loader did what they tell.
pub record Went (visit later : Visiting) (before after : Loading) (mine : List Placed) : Type 0 where
  pub lock_is : later.lock ≡ visit.lock
  pub number_is : later.number ≡ visit.number
  pub session_is : later.session ≡ visit.session
  pub limits_are : later.limits ≡ visit.limits
  pub sound : IsSound later.limits later.pages
  pub grows : IsPrefix visit.pages later.pages
  pub adds : Adds visit.session (entries_of visit.pages) mine (entries_of later.pages)
  pub gained : List loader.Given
  pub gives : Gained mine gained
  pub given_are : after.given ≡ before.given ++ gained
  pub spans : Spans before.faults mine after.faults

-- however the history goes on from these pages
abbrev pub Holds : Pages → ((ℕ → Stock) → Type 0) → Type 0
Holds pages P = (stock : ℕ → Stock) → AgreeUpTo (version_in pages) (stocks pages) stock → P stock

-- One request was made for the context, and is answered so.
pub record Made (visit later : Visiting) (before after : Loading) (iri : List ℕ) (o : Outcome) (mine : List Placed) : Type 0 where
  pub went : Went visit later before after mine
  pub idle : Stands later.pages later.session last.Idle
  pub grown : length visit.pages + 1 ≤ length later.pages
  pub revises : Holds later.pages (λ stock. Revises visit.limits stock iri o mine)

-- Requests were made for these contexts, as far as they came.
pub record Reached (visit later : Visiting) (before after : Loading) (iris : List (List ℕ)) (t t' : Tally) (e : RoundEnd) (mine : List Placed) : Type 0 where
  pub went : Went visit later before after mine
  pub idle : Stands later.pages later.session last.Idle
  pub outcomes : List Outcome
  pub sums : Sums t outcomes t'
  pub come : Holds later.pages (λ stock. Come visit.limits stock (IsFull later.limits later.pages) e iris outcomes mine)

-- What came of the request for a context: the tally with it; or the round ends there, whichever contexts come next.
abbrev pub Comes : (visit later : Visiting) → (before after : Loading) → List ℕ → Tally → Result Tally RoundEnd → Type 0
Comes visit later before after iri t (Ok t') = (o : Outcome) × (mine : List Placed) × Made visit later before after iri o mine × Sums t (o ∷ []) t'
Comes visit later before after iri t (Err e) = (mine : List Placed) × ((iris : List (List ℕ)) → Reached visit later before after (iri ∷ iris) t t e mine)

-- all requests of a round
pub record Walks (visit later : Visiting) (before after : Loading) (t : Tally) (e : RoundEnd) : Type 0 where
  pub mine : List Placed
  pub went : Went visit later before after mine
  pub idle : Stands later.pages later.session last.Idle
  pub outcomes : List Outcome
  pub counted : IsTally outcomes t
  pub ends : Holds later.pages (λ stock. Ends visit.limits stock (IsFull later.limits later.pages) e (first_names stock mine) outcomes mine)
