-- The code's own: what a worker does step by step.
use Rattle.std.specs.Prelude.{◌≡◌, ◌⊎◌, ℕ, ◌+◌, ◌<◌, is_some, List, [], ◌∷◌, ◌++◌, length, IfSome, vec_len, vec_capacity}
use Rattle.std.specs.Option.{option_to_list}
use mathlib.Core.List.{IsPrefix}
use Rattle.ld_edge.specs.Doors.{Doorway, IsOneFewer, IsTold, IsUnused, Sides, with_link}
use Rattle.ld_edge.specs.Faults.{Rose}
use Rattle.ld_flight.specs.Loads.{Loading}
use Rattle.ld_book.specs.Pages.{Booked}
use Rattle.ld_book.specs.Seats.{Lines, lines_of}
use Rattle.ld_moves.specs.Stocks.{IsSound}
use Rattle.ld_turn.specs.Known.{LockId}
use Rattle.ld_visit.specs.Visits.{IsFree}
use Rattle.ld_work.specs.Working.{AreDone, Attends, Deed, IsDone, IsServedBy, Session, Worked, is_due}
use Rattle.ld_work.specs.declared.post.Post.{Post}
use Rattle.ld_work.specs.declared.worker.Job.{Job}
use Rattle.ld_work.specs.declared.worker.Log.{Log}
use Rattle.ld_work.specs.declared.worker.Shift.{Shift}

-- a fact of each sound book that goes on from what was seen
abbrev pub InAll : Lines → (Booked → Type 0) → Type 0
InAll front fact = (book : Booked) → IsSound book.limits book.pages → IsPrefix front (lines_of book) → fact book

-- there is room for one more of each
pub record HasRoom (log : Log) : Type 0 where
  pub sessions : vec_len log.sessions < vec_capacity log.sessions
  pub rounds : vec_len log.rounds < vec_capacity log.rounds

-- ---- a door

-- a link was given
pub record Gives (door door' : Doorway) (link : Sides) : Type 0 where
  pub given_is : door'.given ≡ door.given + 1
  pub left_is : IsOneFewer door.left door'.left
  pub told : IfSome door.returned (λ _. IsTold link)
  pub unused : IsUnused link
  pub back_is : door'.back ≡ door.back
  pub returned_is : door'.returned ≡ door.returned
  pub faults_are : door'.faults ≡ door.faults

-- none was: the door failed, or has none left, as far as that is told
pub record IsLast (door door' : Doorway) : Type 0 where
  pub given_is : door'.given ≡ door.given
  pub left_is : door'.left ≡ door.left
  pub back_is : door'.back ≡ door.back
  pub returned_is : door'.returned ≡ door.returned
  pub ends : Rose door.faults door'.faults ⊎ IfSome door'.left (λ n. n ≡ 0)

-- a link came back
pub record Returns (door door' : Doorway) (link : Sides) : Type 0 where
  pub given_is : door'.given ≡ door.given
  pub left_is : door'.left ≡ door.left
  pub back_is : door'.back ≡ door.back + 1
  pub returned_is : door'.returned ≡ with_link door.returned link
  pub faults_are : door'.faults ≡ door.faults

-- ---- a worker

-- a worker has seats at these locks, and no session is under way in them
pub record IsReady {D L : Type 0} (book library : LockId) (job : Job D L) : Type 0 where
  pub at_book : job.seats.book.lock ≡ book
  pub at_library : job.seats.library.lock ≡ library
  pub free : IsFree job.seats.book

module _ {D L : Type 0} (doorway : D → Doorway) (loading : L → Loading) where
  -- the link was served, and came back
  pub record Converses (given : Sides) (front : Lines) (post post' : Post D L) (session : Session) : Type 0 where
    pub back : Sides
    pub returns : Returns (doorway post.door) (doorway post'.door) back
    pub served : InAll front (λ book. IsServedBy book given back session (loading post.loader) (loading post'.loader))

  -- and a round followed where one was due
  pub record ServesOne (every : ℕ) (given : Sides) (front : Lines) (post post' : Post D L) (log log' : Log) : Type 0 where
    pub deed : Deed
    pub given_is : deed.given ≡ given
    pub returns : Returns (doorway post.door) (doorway post'.door) deed.back
    pub sessions_are : log'.sessions.items ≡ log.sessions.items ++ deed.session ∷ []
    pub rounds_are : log'.rounds.items ≡ log.rounds.items ++ option_to_list deed.round
    pub due : is_some deed.round ≡ is_due every (length log.sessions.items + 1)
    pub done : InAll front (λ book. IsDone book deed (loading post.loader) (loading post'.loader))

  -- what the worker of this post has done so far
  pub record IsUnderway (every : ℕ) (front : Lines) (post post' : Post D L) (log : Log) : Type 0 where
    pub deeds : List Deed
    pub attends : Attends every (doorway post.door) (doorway post'.door) deeds log.sessions.items log.rounds.items
    pub faults_are : (doorway post'.door).faults ≡ (doorway post.door).faults
    pub done : InAll front (λ book. AreDone book deeds (loading post.loader) (loading post'.loader))

  pub record IsShift (every : ℕ) (job : Job D L) (shift : Shift D L) : Type 0 where
    pub book : shift.seats.book.lock ≡ job.seats.book.lock
    pub library : shift.seats.library ≡ job.seats.library
    pub worked : IfSome shift.log (λ log. Worked (λ deeds. InAll shift.seats.book.front (λ book. AreDone book deeds (loading job.post.loader) (loading shift.post.loader))) every
        (doorway job.post.door) (doorway shift.post.door) log.sessions.items log.rounds.items)
