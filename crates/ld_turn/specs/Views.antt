-- What a seat is at and knows, for the lock's own proofs.
use Rattle.std.specs.Prelude.{◌≡◌, ◌==◌, ℕ, ◌+◌, ◌<◌, ◌≤◌, Bool, true, false, cond, List, [], ◌∷◌, ◌++◌, length, Contains, Option, None}
use mathlib.Core.List.{IsPrefix}
use Rattle.atomic_table.specs.Seated.{TableId}
use Rattle.atomic_table.specs.Table.{Me}
use Rattle.ld_turn.specs.declared.rule.View.{View}
use Rattle.ld_turn.specs.declared.rule.Stage.{Stage}
use Rattle.ld_turn.specs.declared.rule.Stage.TheVariants.{Idle, Asking, Giving, Waiting, Holding}
use Rattle.ld_turn.specs.Known.{Known, Noted, AllSaw}

-- the tickets that a stage holds
abbrev pub tickets_at : Stage → ℕ
tickets_at Idle = 0
tickets_at Asking = 0
tickets_at (Giving k) = 0
tickets_at (Waiting t) = 1
tickets_at (Holding t) = 1

-- the seats that may be cut from it
abbrev pub giving_at : Stage → ℕ
giving_at Idle = 0
giving_at Asking = 0
giving_at (Giving k) = 1
giving_at (Waiting t) = 0
giving_at (Holding t) = 0

-- how often it may add to the count of seats
abbrev pub asking_at : Stage → ℕ
asking_at Idle = 0
asking_at Asking = 1
asking_at (Giving k) = 0
asking_at (Waiting t) = 0
asking_at (Holding t) = 0

abbrev pub is_holding : Stage → Bool
is_holding Idle = false
is_holding Asking = false
is_holding (Giving k) = false
is_holding (Waiting t) = false
is_holding (Holding t) = true

-- the number that it gives
abbrev pub number_at : Stage → ℕ
number_at Idle = 0
number_at Asking = 0
number_at (Giving k) = k
number_at (Waiting t) = 0
number_at (Holding t) = 0

-- these, where it doesn't ask
abbrev pub unless_asking : Stage → ℕ → ℕ
unless_asking Idle n = n
unless_asking Asking n = 0
unless_asking (Giving k) n = n
unless_asking (Waiting t) n = n
unless_asking (Holding t) n = n

module _ {E : Type 0} where
  abbrev pub first_view : List E → View E
  first_view log = record { stage = Idle; seats = 1; number = 0; made = 1; front = log; own = []; olds = [] }

  abbrev pub spent : View E
  spent = record { stage = Idle; seats = 0; number = 0; made = 0; front = []; own = []; olds = [] }

  abbrev pub tickets : View E → ℕ
  tickets d = tickets_at d.stage

  abbrev pub asking : View E → ℕ
  asking d = asking_at d.stage

  -- the seats that it stands for, with the one that may be cut from it
  abbrev pub seats : View E → ℕ
  seats d = d.seats + giving_at d.stage

  -- these, where it found k seats made and has asked for none since
  abbrev pub settled_at : ℕ → View E → ℕ
  settled_at k d = cond (d.made == k) (unless_asking d.stage (seats d)) 0

  abbrev pub cut_left : View E → View E
  cut_left d = record d { stage = Idle }

  abbrev pub cut_right : View E → View E
  cut_right d = record { stage = Idle; seats = 1; number = number_at d.stage; made = d.made; front = d.front; own = []; olds = [] }

  -- a note has seen as much, and counts for no seat
  abbrev pub noted : View E → View E
  noted d = record { stage = Idle; seats = 0; number = 0; made = 0; front = d.front; own = []; olds = [] }

  abbrev pub merged : View E → View E → View E
  merged d e = record d { seats = d.seats + e.seats; olds = e.front ∷ (e.olds ++ d.olds) }

  -- what contracts see of it
  abbrev pub known_of : TableId → View E → Known E
  known_of z d = record { lock = z; number = d.number; made = d.made; front = d.front; own = d.own }

  abbrev pub noted_of : TableId → View E → Noted E
  noted_of z d = record { lock = z; front = d.front }

  -- each is a beginning of the history
  abbrev pub AllBegin : List E → List (List E) → Type 0
  AllBegin log [] = Unit {0}
  AllBegin log (x ∷ xs) = IsPrefix x log × AllBegin log xs

  -- the front and the old ones are
  abbrev pub Begins : List E → View E → Type 0
  Begins log d = IsPrefix d.front log × AllBegin log d.olds

  -- it is one seat, of this number
  pub record Sits (number : ℕ) (d : View E) : Type 0 where
    pub one : d.seats ≡ 1
    pub same : number ≡ d.number
    pub low : number < d.made
    pub few : d.made ≤ 256
    pub within : (i : ℕ) → Contains d.own i → i < length d.front

module _ {V E : Type 0} where
  -- a seat that is at nothing
  pub record IsIdle (me : Me (Option V) (View E)) : Type 0 where
    pub idle : me.0.stage ≡ Idle
    pub empty : me.1 ≡ []

  -- a seat that has the turn. The value is out of its slot
  pub record IsOut (me : Me (Option V) (View E)) : Type 0 where
    pub holds : is_holding me.0.stage ≡ true
    pub slot : me.1 ≡ (0, None) ∷ []

  -- a seat of the table that stands for all of these, each of which found `made` seats made
  pub record StandsFor (lock : TableId) (made : ℕ) (all : List (Known E)) (table : TableId) (me : Me (Option V) (View E)) : Type 0 where
    pub of_lock : table ≡ lock
    pub empty : me.1 ≡ []
    pub idle : me.0.stage ≡ Idle
    pub count : me.0.seats ≡ length all
    pub found : me.0.made ≡ made
    pub fronts : (log : List E) → Begins log me.0 → AllSaw log all
