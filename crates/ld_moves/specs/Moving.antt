-- A session on its way: from one place to another, by entries of its own.
use Rattle.std.specs.Prelude.{◌≡◌, ℕ, List, [], ◌++◌}
use mathlib.Core.List.{IsPrefix}
use Rattle.ld_flight.specs.declared.given.Given as loader
use Rattle.ld_history.specs.Legal.{state}
use Rattle.ld_history.specs.declared.limits.Limits.{Limits}
use Rattle.ld_own.specs.Adding.{Adds}
use Rattle.ld_own.specs.Loads.{Gained, Spans}
use Rattle.ld_own.specs.Own.{Placed}
use Rattle.ld_fits.specs.Fits.{Goes, PinWithin}
use Rattle.ld_fits.specs.Play.{Stage}
use Rattle.ld_book.specs.Pages.{Booked, Pages, entries_of}
use Rattle.ld_moves.specs.Stocks.{IsSound, stocks}

-- Where a session stands: the book as it has seen it, what its loader has given and how often that failed, and its stage.
pub record Place : Type 0 where
  pub limits : Limits
  pub pages : Pages
  pub given : List loader.Given
  pub faults : ℕ
  pub stage : Stage

abbrev pub place : Limits → Pages → List loader.Given → ℕ → Stage → Place
place limits pages given faults stage = record { limits = limits; pages = pages; given = given; faults = faults; stage = stage }

-- the number of the current version in these pages
abbrev pub version_in : Pages → ℕ
version_in pages = (state (entries_of pages)).version

-- However the history goes on from q, the session's own entries since p lead from p's stage to q's. The loader gave what
-- they tell, and failed as they tell.
pub record Moves (session : ℕ) (p q : Place) : Type 0 where
  pub limits_are : q.limits ≡ p.limits
  pub sound : IsSound q.limits q.pages
  pub grows : IsPrefix p.pages q.pages
  pub mine : List Placed
  pub adds : Adds session (entries_of p.pages) mine (entries_of q.pages)
  pub pins : PinWithin (version_in q.pages) mine
  pub goes : Goes p.limits (version_in q.pages) (stocks q.pages) p.stage mine q.stage
  pub gained : List loader.Given
  pub gives : Gained mine gained
  pub given_are : q.given ≡ p.given ++ gained
  pub spans : Spans p.faults mine q.faults

-- At a turn the session finds this book: it begins with what it had seen, and nothing that came since is its own.
pub record Finds (session : ℕ) (limits : Limits) (front : Pages) (found : Booked) : Type 0 where
  pub limits_are : found.limits ≡ limits
  pub grows : IsPrefix front found.pages
  pub quiet : Adds session (entries_of front) [] (entries_of found.pages)
  pub sound : IsSound limits found.pages

-- at its turn the session is moved from one stage to another, whatever its loader gave and failed before
abbrev pub MovesOn : ℕ → Limits → Pages → Pages → Stage → Stage → Type 0
MovesOn session limits front later from to = (given : List loader.Given) (faults : ℕ) → Moves session (place limits front given faults from) (place limits later given faults to)
