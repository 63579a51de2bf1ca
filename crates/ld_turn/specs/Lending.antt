-- What a turn lends.
use Rattle.std.specs.Prelude.{ℕ, List, Option}
use Rattle.std.specs.Borrow.{Lends, MutBor, Fml, RattleType}
use Rattle.ld_turn.specs.Known.{Turning}
use Rattle.ld_turn.specs.contracts.turn.Turn.{the_row}

module _ (V : RattleType) (E : RattleType) (list : V.Denot → List E.Denot) (seat_of : List E.Denot → ℕ → Option ℕ) where
  -- the turn ends with the last value behind r
  abbrev pub LendsValue : MutBor (Turning V.Denot E.Denot) → MutBor V.Denot → Fml
  LendsValue t r = Lends (the_row V E (record { list = list; seat_of = seat_of })) V t r (λ w. record t.now { value = w })
