-- A worker's steps add up.
use Rattle.std.proofs.Common.{◌≡◌, ◌∙◌, ℕ, ◌+◌, Bool, true, false, List, [], ◌∷◌, ◌++◌, Option, Some, None, length, map, refl, sym, ap, subst, arith, append-nil}
use Rattle.std.specs.Prelude.{is_some}
use mathlib.Core.List.{IsPrefix}
use Rattle.ld_edge.specs.Doors.{Doorway, Sides}
use Rattle.ld_flight.specs.Loads.{Loading}
use Rattle.ld_book.specs.Pages.{Booked}
use Rattle.ld_book.specs.Seats.{Lines, lines_of}
use Rattle.ld_moves.proofs.Joining.{prefix_trans}
use Rattle.ld_work.specs.Shifts.{Converses, InAll, ServesOne}
use Rattle.ld_work.specs.Working.{IsRevisedBy, Session, is_due}
use Rattle.ld_work.specs.declared.post.Post.{Post}
use Rattle.ld_work.specs.declared.report.RoundReport.{RoundReport}
use Rattle.ld_work.specs.declared.worker.Log.{Log}

module _ {D L : Type 0} (doorway : D → Doorway) (loading : L → Loading) where
  -- a connection with no round behind it
  pub one_alone : (every : ℕ) (given : Sides) (front : Lines) (post post' : Post D L) (log log' : Log) (session : Session) → Converses doorway loading given front post post' session
      → log'.sessions.items ≡ log.sessions.items ++ session ∷ [] → log'.rounds.items ≡ log.rounds.items → is_due every (length log.sessions.items + 1) ≡ false
      → ServesOne doorway loading every given front post post' log log'
  one_alone every given front post post' log log' session c sessions rounds due = record {
    deed = record { given = given; back = c.back; session = session; round = None };
    given_is = refl;
    returns = c.returns;
    sessions_are = sessions;
    rounds_are = rounds ∙ sym (append-nil log.rounds.items);
    due = sym due;
    done = λ book sound grows. record { between = loading post'.loader; served = c.served book sound grows; revised = refl };
  }

  -- and one with a round
  pub one_and_round : (every : ℕ) (given : Sides) (front later : Lines) (post mid : Post D L) (loader : L) (log log' : Log) (session : Session) (round : RoundReport) → Converses doorway loading given front post mid session
      → IsPrefix front later → InAll later (λ book. IsRevisedBy book (Some round) (loading mid.loader) (loading loader))
      → log'.sessions.items ≡ log.sessions.items ++ session ∷ [] → log'.rounds.items ≡ log.rounds.items ++ round ∷ [] → is_due every (length log.sessions.items + 1) ≡ true
      → ServesOne doorway loading every given later post (record { door = mid.door; loader = loader }) log log'
  one_and_round every given front later post mid loader log log' session round c seen revises sessions rounds due = record {
    deed = record { given = given; back = c.back; session = session; round = Some round };
    given_is = refl;
    returns = c.returns;
    sessions_are = sessions;
    rounds_are = rounds;
    due = sym due;
    done = λ book sound grows. record {
      between = loading mid.loader;
      served = c.served book sound (prefix_trans front later (lines_of book) seen grows);
      revised = revises book sound grows;
    };
  }
