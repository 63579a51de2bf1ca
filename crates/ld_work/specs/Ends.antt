-- How serving ends, and the line that tells of it.
use Rattle.std.specs.Prelude.{ℕ, List, [], ◌∷◌, ◌++◌, codes, decimal}
use Rattle.ld_edge.specs.Doors.{Doorway}
use Rattle.ld_flight.specs.Loads.{Loading}
use Rattle.ld_moves.specs.Stocks.{IsSound}
use Rattle.ld_work.specs.Forms.{IsFormOf}
use Rattle.ld_work.specs.Working.{AllWorked}
use Rattle.ld_work.specs.declared.form.Form.{Form}
use Rattle.ld_work.specs.declared.post.Post.{Post}
use Rattle.ld_work.specs.declared.serving.Ended.{Ended}
use Rattle.ld_work.specs.declared.serving.Ended.TheVariants as ended

module _ {D L : Type 0} (doorway : D → Doorway) (loading : L → Loading) where
  -- The words ask for no server; or they do, and either memory was wanting, or the book was closed: then it is sound, and it tells
  -- what the workers have done, of whom each came back to its post.
  abbrev pub HasEnded : (words : List (List ℕ)) → (posts : List (Post D L)) → Ended D L → Type 0
  HasEnded words posts ended.Usage = (form : Form) → IsFormOf (codes "serve") words form → ⊥
  HasEnded words posts ended.NoMemory = (form : Form) × IsFormOf (codes "serve") words form
  HasEnded words posts (ended.Done book sessions rounds posts') =
      (form : Form) × IsFormOf (codes "serve") words form × IsSound book.limits book.pages
      × AllWorked doorway loading book form.every posts posts'.items sessions.items rounds.items

-- the line of so many sessions, entries of the book, and its current version
abbrev pub told_line : (sessions events version : ℕ) → List ℕ
told_line sessions events version =
    codes "sessions " ++ (decimal sessions ++ (codes " events " ++ (decimal events ++ (codes " version " ++ (decimal version ++ 10 ∷ [])))))
