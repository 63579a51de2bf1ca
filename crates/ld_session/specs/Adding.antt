-- The code's own: what a session has moved between visits adds up.
use Rattle.std.proofs.Common.{◌≡◌, ◌∙◌, ℕ, refl, subst}
use Rattle.ld_fits.specs.Play.{Stage}
use Rattle.ld_flight.specs.Loads.{Loading}
use Rattle.ld_moves.specs.Moving.{Moves, place}
use Rattle.ld_moves.specs.Stocks.{IsSound}
use Rattle.ld_moves.proofs.Joining.{more_moves, none_moves}
use Rattle.ld_visit.specs.Visits.{Visiting}
use Rattle.ld_session.specs.Serving.{Moved, Moving}

pub moved_none : (v : Visiting) (loader : Loading) (stage : Stage) → IsSound v.limits v.pages → Moved v v loader loader stage stage
moved_none v loader stage sound = record {
  lock_is = refl;
  number_is = refl;
  session_is = refl;
  moves = none_moves v.session (place v.limits v.pages loader.given loader.faults stage) sound;
}

pub moved_more : (a b c : Visiting) (x y z : Loading) (p q r : Stage) → Moved a b x y p q → Moved b c y z q r → Moved a c x z p r
moved_more a b c x y z p q r m n = record {
  lock_is = n.lock_is ∙ m.lock_is;
  number_is = n.number_is ∙ m.number_is;
  session_is = n.session_is ∙ m.session_is;
  moves = more_moves a.session (place a.limits a.pages x.given x.faults p) (place b.limits b.pages y.given y.faults q) (place c.limits c.pages z.given z.faults r) m.moves
      (subst (λ (s : ℕ). Moves s (place b.limits b.pages y.given y.faults q) (place c.limits c.pages z.given z.faults r)) m.session_is n.moves);
}

pub moving_none : (v : Visiting) (loader : Loading) (stage : Stage) → Moving v v loader loader stage stage
moving_none v loader stage sound = moved_none v loader stage sound

pub moving_more : (a b c : Visiting) (x y z : Loading) (p q r : Stage) → Moving a b x y p q → Moving b c y z q r → Moving a c x z p r
moving_more a b c x y z p q r m n sound = let first = m sound in moved_more a b c x y z p q r first (n first.moves.sound)
