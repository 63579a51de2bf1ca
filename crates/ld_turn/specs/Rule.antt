-- The rule of the turn lock's table: what holds of the words, of the value's slot and of what all seats know, between any two steps.
use Rattle.std.specs.Prelude.{◌≡◌, ◌≢◌, ℕ, ◌+◌, ◌%◌, ◌<◌, ◌≤◌, Bool, true, false, min, List, length, slice_index, Option, Some}
use Rattle.std.specs.List.{sum_by}
use mathlib.Core.Option.{some}
use lib.ListN.{get_elem?}
use Rattle.atomic_table.specs.Table.{State}
use Rattle.ld_turn.specs.declared.rule.View.{View}
use Rattle.ld_turn.specs.declared.rule.Stage.{Stage}
use Rattle.ld_turn.specs.declared.rule.Stage.TheVariants.{Idle, Asking, Giving, Waiting, Holding}
use Rattle.ld_turn.specs.History.{Owns}
use Rattle.ld_turn.specs.Views.{tickets, asking, seats, settled_at, Begins}

-- the words: `low` turns have passed, `n` tickets are out, and the history has `told` entries. They wrap, and the bells stand behind them
pub record Reads (low n told : ℕ) (words : List ℕ) : Type 0 where
  pub wide : length words ≡ 260
  pub ticket : slice_index words 0 ≡ (low + n) % 18446744073709551616
  pub serving : slice_index words 1 ≡ low % 18446744073709551616
  pub told_is : slice_index words 2 ≡ told

module _ {E : Type 0} where
  -- what is known of a seat's stage: whose the tickets are, and that the seat that has the turn has seen the whole history
  module _ (low n : ℕ) (owner : ℕ → ℕ) (log : List E) (out : Bool) (seat : ℕ) (front : List E) where
    abbrev pub Knows : Stage → Type 0
    Knows Idle = Unit {0}
    Knows Asking = Unit {0}
    Knows (Giving k) = Unit {0}
    Knows (Waiting t) = (low ≤ t) × (t < low + n) × (owner t ≡ seat)
    Knows (Holding t) = (t ≡ low) × (0 < n) × (owner low ≡ seat) × (out ≡ true) × (front ≡ log)

  -- no entry belongs to the seat of this number
  abbrev pub Lacks : (List E → ℕ → Option ℕ) → List E → ℕ → Type 0
  Lacks seat_of log k = (i : ℕ) → i < length log → seat_of log i ≢ Some k

  -- where `made` numbers were drawn: each seat has a number of its own, and its entries are those that belong to it
  pub record Owned (seat_of : List E → ℕ → Option ℕ) (log : List E) (made : ℕ) (views : List (View E)) : Type 0 where
    pub holder : ℕ → ℕ
    pub each : (j : ℕ) (d : View E) → get_elem? views j ≡ some d → 0 < d.seats → (d.number < made) × (holder d.number ≡ j) × Owns seat_of log d.number d.own
    pub given : (j : ℕ) (d : View E) → get_elem? views j ≡ some d → (k : ℕ) → d.stage ≡ Giving k → (k < made) × (holder k ≡ j) × (k ≢ d.number) × Lacks seat_of log k
    pub unborn : (k : ℕ) → made ≤ k → Lacks seat_of log k

  pub record Fine (made : ℕ) (d : View E) : Type 0 where
    pub ticket : tickets d ≤ d.seats
    pub asks : asking d ≤ d.seats
    pub made_is : d.made ≤ min made 256

  -- the seats are those that were made: at most 256, whatever the word says. Where as many are settled at a number, it is that of all
  pub record Counts (made : ℕ) (views : List (View E)) : Type 0 where
    pub total : sum_by seats views ≡ min made 256
    pub asks : made + sum_by asking views < 512
    pub each : (j : ℕ) (d : View E) → get_elem? views j ≡ some d → Fine made d
    pub whole : (k : ℕ) → 0 < k → k ≤ sum_by (settled_at k) views → min made 256 ≡ k

module _ {V E : Type 0} (list : V → List E) (seat_of : List E → ℕ → Option ℕ) where
  -- while no seat has the turn, the value is at home, and stands for the history
  pub record Kept (s : State (Option V) (View E)) : Type 0 where
    pub low : ℕ
    pub n : ℕ
    pub owner : ℕ → ℕ
    pub log : List E
    pub out : Bool
    pub reads : Reads low n (length log) s.words
    pub deep : length s.homes ≡ 1
    pub made : Counts (slice_index s.words 3) s.views
    pub own : Owned seat_of log (slice_index s.words 3) s.views
    pub count : n ≡ sum_by tickets s.views
    pub stage : (j : ℕ) (d : View E) → get_elem? s.views j ≡ some d → Knows low n owner log out j d.front d.stage
    pub front : (j : ℕ) (d : View E) → get_elem? s.views j ≡ some d → Begins log d
    pub home : out ≡ false → (v : V) × (get_elem? s.homes 0 ≡ some (some (Some v))) × (list v ≡ log)
    pub held : out ≡ true → (d : View E) × (get_elem? s.views (owner low) ≡ some d) × (d.stage ≡ Holding low)
