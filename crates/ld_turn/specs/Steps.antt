-- What each kind of step tells its seat: of the seat before, of the word found, and of the seat after.
use Rattle.std.specs.Prelude.{◌≡◌, ◌≢◌, ℕ, ◌+◌, ◌%◌, ◌<◌, ◌≤◌, min, List, [], ◌∷◌, length, Option, Some}
use mathlib.Core.Option.{some}
use mathlib.Core.List.{IsPrefix}
use lib.ListN.{get_elem?}
use Rattle.atomic_table.specs.Table.{Me, Step}
use Rattle.ld_turn.specs.declared.rule.View.{View}
use Rattle.ld_turn.specs.declared.rule.Stage.TheVariants.{Idle, Asking, Giving, Waiting, Holding}
use Rattle.ld_turn.specs.History.{Owns, own_after}
use Rattle.ld_turn.specs.Views.{AllBegin, Begins}

abbrev pub Tells : Type 0 → Type 0 → Type 1
Tells V E = Step (Option V) → Me (Option V) (View E) → ℕ → Me (Option V) (View E) → Type 0

module _ {V E : Type 0} where
  abbrev pub drawn : Tells V E
  drawn st m r m' = (m'.1 ≡ m.1) × ((t : ℕ) × (r ≡ t % 18446744073709551616) × (m'.0 ≡ record m.0 { stage = Waiting t }))

  abbrev pub passed : Tells V E
  passed st m r m' = (m'.1 ≡ []) × (m'.0 ≡ record m.0 { stage = Idle })

  abbrev pub rang : Tells V E
  rang st m r m' = m' ≡ m

  abbrev pub asked : Tells V E
  asked st m r m' = (m'.1 ≡ m.1) × (m.0.made ≤ r) × (r < 256 → m'.0 ≡ record m.0 { stage = Asking; made = r }) × (256 ≤ r → m'.0 ≡ record m.0 { made = 256 })

  abbrev pub numbered : Tells V E
  numbered st m r m' = (m'.1 ≡ m.1) × (m.0.made ≤ r) × (r < 256 → m'.0 ≡ record m.0 { stage = Giving r; made = r + 1 }) × (256 ≤ r → m'.0 ≡ record m.0 { stage = Idle; made = 256 })

  abbrev pub counted : Tells V E
  counted st m r m' = (m'.1 ≡ m.1) × (m.0.made ≤ r) × (m'.0 ≡ record m.0 { made = min r 256 })

  -- the seat sees the history so far, which begins with its front and with the old ones
  abbrev pub met : Tells V E
  met st m r m' = (m'.1 ≡ m.1) × (m'.0 ≡ record m.0 { front = m'.0.front }) × (length m'.0.front ≡ r) × IsPrefix m.0.front m'.0.front × AllBegin m'.0.front m.0.olds

module _ {V E : Type 0} (list : V → List E) where
  abbrev pub told : Tells V E
  told st m r m' = (v : V) → m.1 ≡ (0, Some v) ∷ [] → (m'.1 ≡ m.1) × (m'.0 ≡ record m.0 { front = list v; own = own_after m.0.own m.0.front (list v) })

  -- the table when it is closed with a seat that stands for all that were made
  abbrev pub IsLast : View E → List (Option V) → Type 0
  IsLast d slots = (v : V) × (get_elem? slots 0 ≡ some (Some v)) × Begins (list v) d

module _ {V E : Type 0} (list : V → List E) (seat_of : List E → ℕ → Option ℕ) where
  abbrev pub looked : Tells V E
  looked st m r m' = (t : ℕ) → m.0.stage ≡ Waiting t
      → (r ≡ t % 18446744073709551616 → (v : V) × (m'.1 ≡ (0, Some v) ∷ m.1) × (m'.0 ≡ record m.0 { stage = Holding t; front = list v }) × IsPrefix m.0.front (list v) × (0 < m.0.seats → Owns seat_of (list v) m.0.number m.0.own))
      × (r ≢ t % 18446744073709551616 → m' ≡ m)
