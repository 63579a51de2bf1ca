-- A talk that is under way.
use Rattle.std.specs.Prelude.{ℕ, ◌≤◌, List, [], ◌∷◌, ◌++◌, Option, Some, None}
use Rattle.ld_edge.specs.Sides.{Incoming}
use Rattle.ld_fits.specs.Asks.{Heard}
use Rattle.ld_head.specs.declared.session_end.SessionEnd.{SessionEnd}
use Rattle.ld_items.specs.Saying.{HaveSaid}
use Rattle.ld_items.specs.Taking.{Standing}
use Rattle.ld_talk.specs.Talking.{Moving, Talked, Told, marked_in}

-- these bytes came, and say these items, each of which was answered; these bytes went
pub record IsTalking (moves : Moving) (came went : List ℕ) (heard : List Heard) (p : Standing) : Type 0 where
  pub said : HaveSaid came (marked_in heard) p
  pub told : Told moves heard went

-- it goes on with one item more, or has ended so
abbrev pub GoesOnOrEnds : Moving → (full : ℕ → Type 0) → (came went : List ℕ) → List Heard → Standing → Incoming → Option SessionEnd → Type 0
GoesOnOrEnds moves full came went heard p source None = (h : Heard) × IsTalking moves came went (heard ++ h ∷ []) p × (p.items ≤ 65535)
GoesOnOrEnds moves full came went heard p source (Some e) = Talked moves full came went source e
