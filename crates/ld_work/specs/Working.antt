-- What the workers of a server have done, in the one book that they share.
use Rattle.std.specs.Prelude.{◌≡◌, ◌⊎◌, ℕ, ◌+◌, ◌/◌, ◌%◌, ◌==◌, Bool, not, ◌&&◌, if◌then◌else◌, is_some, List, [], ◌∷◌, ◌++◌, length, map, All, Option, Some, None, IfSome}
use Rattle.std.specs.Option.{option_map, option_to_list}
use Rattle.ld_edge.specs.Doors.{Doorway, IsTold, IsUnused, Sides}
use Rattle.ld_edge.specs.Faults.{Rose}
use Rattle.ld_edge.specs.Passing.{Comes, Goes}
use Rattle.ld_flight.specs.Loads.{Loading}
use Rattle.ld_head.specs.declared.session_end.SessionEnd.{SessionEnd}
use Rattle.ld_book.specs.Pages.{Booked, Pages}
use Rattle.ld_session.specs.Serving.{IsConnection}
use Rattle.ld_talk.specs.Talking.{Faults}
use Rattle.ld_revise.specs.Rounds.{IsRoundOf}
use Rattle.ld_work.specs.declared.report.RoundReport.{RoundReport}
use Rattle.ld_work.specs.declared.post.Post.{Post}

-- the number of a session, where one was opened, and how its connection ended
abbrev pub Session : Type 0
Session = Option ℕ × SessionEnd

-- One thing that a worker did: it served a connection, and had a round of revisions behind it, or none. What is told of the
-- link is told when the door gave it, and when it came back.
pub record Deed : Type 0 where
  pub given : Sides
  pub back : Sides
  pub session : Session
  pub round : Option RoundReport

-- all rounds, in their order
abbrev pub rounds_of : List Deed → List RoundReport
rounds_of [] = []
rounds_of (d ∷ deeds) = option_to_list d.round ++ rounds_of deeds

-- ---- when there is a round

-- a round is due after so many connections: after each `every`-th, and never at 0
abbrev pub is_due : (every connections : ℕ) → Bool
is_due every connections = not (every == 0) && (connections % every == 0)

-- how many rounds are due in so many connections
abbrev pub rounds_due : (every connections : ℕ) → ℕ
rounds_due every connections = if every == 0 then 0 else connections / every

-- behind so many connections before, a round follows on each of these where one is due, and nowhere else
abbrev pub ArePaced : (every before : ℕ) → List Deed → Type 0
ArePaced every before [] = Unit {0}
ArePaced every before (d ∷ deeds) = (is_some d.round ≡ is_due every (before + 1)) × ArePaced every (before + 1) deeds

-- ---- what the book tells of it

module _ (book : Booked) where
  -- The connection: what came and went over its link, and what the loader did, is what the book tells of its session. It failed
  -- only where its link did.
  pub record IsServedBy (given back : Sides) (session : Session) (before after : Loading) : Type 0 where
    pub came : List ℕ
    pub comes : Comes given.0 back.0 came
    pub went : List ℕ
    pub goes : Goes given.1 back.1 went
    pub start : Pages
    pub told : IsConnection session.0 book.limits start book.pages came went back.0 before after session.1
    pub faults : Faults session.1 given.0.faults back.0.faults given.1.faults back.1.faults

  -- The round, where there was one.
  abbrev pub IsRevisedBy : Option RoundReport → (before after : Loading) → Type 0
  IsRevisedBy None before after = after ≡ before
  IsRevisedBy (Some r) before after =
      (start : Pages) × IsRoundOf r.session book.limits start book.pages before after (record { revised = r.revised; same = r.same; failed = r.failed; refused = r.refused }) r.end

  pub record IsDone (deed : Deed) (before after : Loading) : Type 0 where
    pub between : Loading
    pub served : IsServedBy deed.given deed.back deed.session before between
    pub revised : IsRevisedBy deed.round between after

  -- One thing after another: the loader goes from each to the next.
  abbrev pub AreDone : List Deed → (before after : Loading) → Type 0
  AreDone [] before after = after ≡ before
  AreDone (d ∷ deeds) before after = (between : Loading) × IsDone d before between × AreDone deeds between after

-- ---- a worker

-- What a worker has done at its door: each link that the door gave was served and came back, as it is told in its log. Those
-- that are left are those that it didn't take.
pub record Attends (every : ℕ) (door door' : Doorway) (deeds : List Deed) (sessions : List Session) (rounds : List RoundReport) : Type 0 where
  pub sessions_are : sessions ≡ map (λ d. d.session) deeds
  pub rounds_are : rounds ≡ rounds_of deeds
  pub paced : ArePaced every 0 deeds
  pub given : door'.given ≡ door.given + length deeds
  pub back : door'.back ≡ door.back + length deeds
  pub returned : door'.returned ≡ option_map (λ links. links ++ map (λ d. d.back) deeds) door.returned
  pub left : door.left ≡ option_map (λ n. length deeds + n) door'.left
  pub unused : All (λ d. IsUnused d.given) deeds
  pub told : IfSome door.returned (λ links. All (λ d. IsTold d.given) deeds)

-- A worker's whole work. It ends where its door failed, or has no link left, as far as that is told. Of a list of what it did
-- the fact `did` holds.
pub record Worked (did : List Deed → Type 0) (every : ℕ) (door door' : Doorway) (sessions : List Session) (rounds : List RoundReport) : Type 0 where
  pub deeds : List Deed
  pub attends : Attends every door door' deeds sessions rounds
  pub links : length sessions + door.given ≡ door'.given
  pub count : length rounds ≡ rounds_due every (length sessions)
  pub finished : Rose door.faults door'.faults ⊎ IfSome door'.left (λ n. n ≡ 0)
  pub done : did deeds

-- ---- all workers

module _ {D L : Type 0} (doorway : D → Doorway) (loading : L → Loading) (book : Booked) (every : ℕ) where
  -- what the worker of this post has done, as the book tells it
  abbrev pub WorkedAt : (post post' : Post D L) → List Session → List RoundReport → Type 0
  WorkedAt post post' sessions rounds =
      Worked (λ deeds. AreDone book deeds (loading post.loader) (loading post'.loader)) every (doorway post.door) (doorway post'.door) sessions rounds

  -- worker by worker, and what all have done is what each has done, in their order
  abbrev pub AllWorked : (posts posts' : List (Post D L)) → List Session → List RoundReport → Type 0
  AllWorked [] [] sessions rounds = (sessions ≡ []) × (rounds ≡ [])
  AllWorked (post ∷ posts) (post' ∷ posts') sessions rounds =
      (own others : List Session) × (own_rounds other_rounds : List RoundReport) × WorkedAt post post' own own_rounds × AllWorked posts posts' others other_rounds
      × (sessions ≡ own ++ others) × (rounds ≡ own_rounds ++ other_rounds)
  AllWorked _ _ sessions rounds = ⊥
