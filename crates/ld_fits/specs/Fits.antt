-- What it is for a history to fit what a connection asked and what was written to it.
use Rattle.std.specs.Prelude.{◌≡◌, ℕ, ◌≤◌, List, [], ◌∷◌, map}
use Rattle.std.specs.List.{fold}
use Rattle.ld_head.specs.Dialogues.{Marked}
use Rattle.ld_history.specs.declared.event.Event.{Event}
use Rattle.ld_history.specs.declared.event.Event.TheVariants as event
use Rattle.ld_history.specs.Legal.{Entries}
use Rattle.ld_history.specs.declared.limits.Limits.{Limits}
use Rattle.ld_rec.specs.Outcome.{Stock}
use Rattle.ld_fits.specs.Asks.{Heard}
use Rattle.ld_own.specs.Own.{Placed, own_placed}
use Rattle.ld_fits.specs.Play.{Stage, Fresh, Shut, play}

-- own entries lead from one stage to another, where this is what each version has
abbrev pub Leads : Limits → (ℕ → Stock) → Stage → List Placed → Stage → Type 0
Leads limits stock from mine to = fold (play limits stock) from mine ≡ to

-- The session's entries in the history begin with its Opened and end with its Closed. In between they are its requests: the
-- items that are accepted as such, in order, each with its pins, the contexts that it lacked and its answer. What was
-- written is the text of each item, one after another.
pub record Fits (limits : Limits) (stock : ℕ → Stock) (entries : Entries) (session : ℕ) (items : List Marked) (written : List ℕ) : Type 0 where
  pub heard : List Heard
  pub are_items : map (λ h. h.marked) heard ≡ items
  pub leads : Leads limits stock (Fresh heard) (own_placed session entries) (Shut written)

-- ---- as the history grows

-- the event pins no version above this one
abbrev pub pins_within : ℕ → Event (List ℕ) → Type 0
pins_within n (event.Pinned session request attempt version) = version ≤ n
pins_within n _ = Unit {0}

abbrev pub PinWithin : ℕ → List Placed → Type 0
PinWithin n [] = Unit {0}
PinWithin n (p ∷ mine) = pins_within n p.entry.event × PinWithin n mine

-- up to this version, each has the same
abbrev pub AgreeUpTo : ℕ → (ℕ → Stock) → (ℕ → Stock) → Type 0
AgreeUpTo n stock later = (version : ℕ) → version ≤ n → later version ≡ stock version

-- however the history goes on from one that has this version
abbrev pub Goes : Limits → ℕ → (ℕ → Stock) → Stage → List Placed → Stage → Type 0
Goes limits n stock from mine to = (later : ℕ → Stock) → AgreeUpTo n stock later → Leads limits later from mine to
