-- The code's own: what all workers leave together.
use Rattle.std.specs.Prelude.{◌≡◌, List, [], ◌∷◌, ◌++◌, map, Option, Some, None, IsSome}
use Rattle.std.specs.List.{AllByRecursion}
use Rattle.ld_book.specs.declared.page.Line.{Line}
use Rattle.ld_turn.specs.Known.{Known}
use Rattle.ld_work.specs.Working.{Session}
use Rattle.ld_work.specs.declared.hall.AllSeats.{AllSeats}
use Rattle.ld_work.specs.declared.report.RoundReport.{RoundReport}
use Rattle.ld_work.specs.declared.serving.Gathered.{Gathered}
use Rattle.ld_work.specs.declared.worker.Log.{Log}
use Rattle.ld_work.specs.declared.worker.Shift.{Shift}

abbrev pub sessions_in : Option Log → List Session
sessions_in None = []
sessions_in (Some log) = log.sessions.items

abbrev pub rounds_in : Option Log → List RoundReport
rounds_in None = []
rounds_in (Some log) = log.rounds.items

module _ {D L : Type 0} where
  abbrev pub all_sessions : List (Shift D L) → List Session
  all_sessions [] = []
  all_sessions (x ∷ shifts) = sessions_in x.log ++ all_sessions shifts

  abbrev pub all_rounds : List (Shift D L) → List RoundReport
  all_rounds [] = []
  all_rounds (x ∷ shifts) = rounds_in x.log ++ all_rounds shifts

  -- The seats are the first ones and those of the workers. All else is what each has left, in their order. Each has its log.
  pub record AreGathered (book : Known Line) (library : Known (Unit {0})) (shifts : List (Shift D L)) (all : AllSeats) (gathered : Gathered D L) : Type 0 where
    pub book_seats : all.book.items ≡ book ∷ map (λ x. x.seats.book) shifts
    pub library_seats : all.library.items ≡ library ∷ map (λ x. x.seats.library) shifts
    pub logged : AllByRecursion (λ x. IsSome x.log) shifts
    pub posts_are : gathered.posts.items ≡ map (λ x. x.post) shifts
    pub sessions_are : gathered.sessions.items ≡ all_sessions shifts
    pub rounds_are : gathered.rounds.items ≡ all_rounds shifts
