-- What each worker has done, in the closed book.
use Rattle.std.proofs.Common.{◌≡◌, ◌∙◌, ℕ, ◌+◌, ◌<◌, suc, List, [], ◌∷◌, ◌++◌, Option, Some, None, All, IfSome, length, map, refl, sym, ap, subst, arith}
use Rattle.std.specs.Prelude.{IsSome, slice_index_or}
use Rattle.std.specs.List.{AllByRecursion, AllZip}
use Rattle.std.specs.Fn.{FnReturns}
use Rattle.std.specs.Fork.{GivesJobs, GivesJob}
use denote.Param.Members.{Shared}
use mathlib.Core.List.{IsPrefix}
use Rattle.ld_edge.specs.Doors.{Doorway}
use Rattle.ld_flight.specs.Loads.{Loading}
use Rattle.ld_book.specs.Pages.{Booked}
use Rattle.ld_book.specs.Seats.{Lines, lines_of}
use Rattle.ld_book.specs.declared.page.Line.{Line}
use Rattle.ld_moves.specs.Stocks.{IsSound}
use Rattle.ld_turn.specs.Known.{Known, LockId}
use Rattle.ld_work.specs.Gathering.{all_rounds, all_sessions, rounds_in, sessions_in}
use Rattle.ld_work.specs.Shifts.{InAll, IsReady, IsShift}
use Rattle.ld_work.specs.Working.{AllWorked, AreDone, Deed, Session, Worked}
use Rattle.ld_work.specs.declared.report.RoundReport.{RoundReport}
use Rattle.ld_work.specs.declared.post.Post.{Post}
use Rattle.ld_work.specs.declared.worker.Job.{Job}
use Rattle.ld_work.specs.declared.worker.Log.{Log}
use Rattle.ld_work.specs.declared.worker.Shift.{Shift}

-- what is known of each call is known of each job with its result
pub zip_gives : {F J R : Type 0} (g : Shared F (J × Unit {0}) R) (f : F) (P : J → R → Type 0) → ((j : J) (r : R) → FnReturns g f (j, tt) r → P j r) → (js : List J) (rs : List R) → length rs ≡ length js → GivesJobs g f js rs → AllZip P js rs
zip_gives g f P one [] [] count h = tt
zip_gives g f P one [] (r ∷ rs) count h = absurd (omega (arith, count))
zip_gives g f P one (j ∷ js) [] count h = absurd (omega (arith, count))
zip_gives {J = J} g f P one (j ∷ js) (r ∷ rs) count h =
    let first = (h 0 r (omega arith)).1 in (
      one j r (subst (λ (x : J). FnReturns g f (x, tt) r) (sym (first.job_is j)) first.call),
      zip_gives g f P one js rs (omega (arith, count)) (λ i d lt.
          let x = (h (suc i) d (omega (arith, lt))).1 in (
            refl,
            record { job = x.job; job_read = x.job_read; job_is = x.job_is; call = x.call },
          )),
    )

worked_in : (did did' : List Deed → Type 0) (every : ℕ) (door door' : Doorway) (log : Option Log) → IsSome log → IfSome log (λ l. Worked did every door door' l.sessions.items l.rounds.items) → ((deeds : List Deed) → did deeds → did' deeds)
    → Worked did' every door door' (sessions_in log) (rounds_in log)
worked_in did did' every door door' None some h f = cc
worked_in did did' every door door' (Some log) some h f = record { deeds = h.deeds; attends = h.attends; links = h.links; count = h.count; finished = h.finished; done = f h.deeds h.done }

module _ {D L : Type 0} (doorway : D → Doorway) (loading : L → Loading) (every : ℕ) where
  pub all_worked : (book : Booked) → IsSound book.limits book.pages → (jobs : List (Job D L)) (shifts : List (Shift D L)) → AllZip (λ j s. IsShift doorway loading every j s) jobs shifts → AllByRecursion (λ x. IsSome x.log) shifts
      → AllByRecursion (λ (k : Known Line). IsPrefix k.front (lines_of book)) (map (λ x. x.seats.book) shifts)
      → AllWorked doorway loading book every (map (λ j. j.post) jobs) (map (λ x. x.post) shifts) (all_sessions shifts) (all_rounds shifts)
  all_worked book sound [] [] zip logged saw = (refl, refl)
  all_worked book sound [] (x ∷ shifts) zip logged saw = absurd zip
  all_worked book sound (j ∷ jobs) [] zip logged saw = absurd zip
  all_worked book sound (j ∷ jobs) (x ∷ shifts) zip logged saw = (
    sessions_in x.log,
    all_sessions shifts,
    rounds_in x.log,
    all_rounds shifts,
    worked_in (λ deeds. InAll x.seats.book.front (λ b. AreDone b deeds (loading j.post.loader) (loading x.post.loader))) (λ deeds. AreDone book deeds (loading j.post.loader) (loading x.post.loader)) every (doorway j.post.door)
        (doorway x.post.door) x.log logged.0 zip.0.worked (λ deeds h. h book sound saw.0),
    all_worked book sound jobs shifts zip.1 logged.1 saw.1,
    refl,
    refl,
  )

  pub all_at_book : (book library : LockId) (jobs : List (Job D L)) (shifts : List (Shift D L)) → AllZip (λ j s. IsShift doorway loading every j s) jobs shifts → AllByRecursion (λ j. IsReady book library j) jobs
      → AllByRecursion (λ (k : Known Line). k.lock ≡ book) (map (λ x. x.seats.book) shifts)
  all_at_book book library [] [] zip ready = tt
  all_at_book book library [] (x ∷ shifts) zip ready = absurd zip
  all_at_book book library (j ∷ jobs) [] zip ready = tt
  all_at_book book library (j ∷ jobs) (x ∷ shifts) zip ready = (zip.0.book ∙ ready.0.at_book, all_at_book book library jobs shifts zip.1 ready.1)

  pub all_at_library : (book library : LockId) (jobs : List (Job D L)) (shifts : List (Shift D L)) → AllZip (λ j s. IsShift doorway loading every j s) jobs shifts → AllByRecursion (λ j. IsReady book library j) jobs
      → AllByRecursion (λ (k : Known (Unit {0})). k.lock ≡ library) (map (λ x. x.seats.library) shifts)
  all_at_library book library [] [] zip ready = tt
  all_at_library book library [] (x ∷ shifts) zip ready = absurd zip
  all_at_library book library (j ∷ jobs) [] zip ready = tt
  all_at_library book library (j ∷ jobs) (x ∷ shifts) zip ready = (ap (λ k. k.lock) zip.0.library ∙ ready.0.at_library, all_at_library book library jobs shifts zip.1 ready.1)

  -- the same of equal lists
  pub worked_as : (book : Booked) (posts posts' as_posts as_posts' : List (Post D L)) (sessions as_sessions : List Session) (rounds as_rounds : List RoundReport) → AllWorked doorway loading book every posts posts' sessions rounds
      → posts ≡ as_posts → as_posts' ≡ posts' → as_sessions ≡ sessions → as_rounds ≡ rounds → AllWorked doorway loading book every as_posts as_posts' as_sessions as_rounds
  worked_as book posts posts' as_posts as_posts' sessions as_sessions rounds as_rounds h a b s r =
      subst (λ (ps : List (Post D L)). AllWorked doorway loading book every ps as_posts' as_sessions as_rounds) a (subst (λ (ps : List (Post D L)). AllWorked doorway loading book every posts ps as_sessions as_rounds) (sym b)
      (subst (λ (ss : List Session). AllWorked doorway loading book every posts posts' ss as_rounds) (sym s) (subst (λ (rs : List RoundReport). AllWorked doorway loading book every posts posts' sessions rs) (sym r) h)))
