-- The requests of a round's later contexts, in the middle of them.
use Rattle.std.proofs.Common.{◌≡◌, ◌∙◌, ℕ, ◌≤◌, List, ◌∷◌, ◌++◌, length, refl, arith}
use Rattle.std.specs.Prelude.{Ok, Err}
use Rattle.ld_flight.specs.Loads.{Loading}
use Rattle.ld_history.specs.declared.session.Last.TheVariants as last
use Rattle.ld_own.specs.Own.{Placed}
use Rattle.ld_moves.specs.Standing.{Stands}
use Rattle.ld_moves.specs.Stocks.{IsSound}
use Rattle.ld_visit.specs.Visits.{Visiting}
use Rattle.ld_revise.specs.Walking.{Comes, Reached, total}
use Rattle.ld_revise.specs.declared.round.RoundEnd.{RoundEnd}
use Rattle.ld_revise.specs.declared.tally.Tally.{Tally}
use Rattle.ld_revise.proofs.Reaching.{reached_next}

-- What comes of the contexts that are left, from now on, makes what comes of all of them.
pub record Resting (start now : Visiting) (x y : Loading) (all left : List (List ℕ)) (t u : Tally) : Type 0 where
  pub lock_is : now.lock ≡ start.lock
  pub sound : IsSound now.limits now.pages
  pub idle : Stands now.pages now.session last.Idle
  pub small : total u ≤ length now.pages
  pub whole : (later : Visiting) (z : Loading) (w : Tally) (e : RoundEnd) (mine : List Placed) → Reached now later y z left u w e mine → (every : List Placed) × Reached start later x z all t w e every

pub resting_first : (v : Visiting) (x : Loading) (all : List (List ℕ)) (t : Tally) → IsSound v.limits v.pages → Stands v.pages v.session last.Idle → total t ≤ length v.pages → Resting v v x x all all t t
resting_first v x all t sound idle small = record { lock_is = refl; sound = sound; idle = idle; small = small; whole = λ later z w e mine r. (mine, r) }

module _ (start now mid : Visiting) (x y z : Loading) (all : List (List ℕ)) (iri : List ℕ) (left : List (List ℕ)) (t u : Tally) (r : Resting start now x y all (iri ∷ left) t u) where
  pub resting_next : (u' : Tally) → Comes now mid y z iri u (Ok u') → Resting start mid x z all left t u'
  resting_next u' c =
      let m = c.2 in
      let s = c.3 in
      record {
        lock_is = m.went.lock_is ∙ r.lock_is;
        sound = m.went.sound;
        idle = m.idle;
        small = let one = s.whole in let grown = m.grown in let before = r.small in omega (arith, one, grown, before);
        whole = λ later z' w e mine rest. r.whole later z' w e (c.1 ++ mine) (reached_next now mid y z iri c.0 c.1 m later z' left u u' w e mine s rest);
      }

  pub resting_ends : (e : RoundEnd) → Comes now mid y z iri u (Err e) → (every : List Placed) × Reached start mid x z all t u e every
  resting_ends e c = r.whole mid z u e c.0 (c.1 left)
