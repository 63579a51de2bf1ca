-- The code's own: what a session's waiting for a flight comes to.
use Rattle.std.specs.Prelude.{◌≡◌, ◌⊎◌, ℕ, List, [], ◌∷◌, ◌++◌}
use Rattle.ld_flight.specs.Loads.{Loading}
use Rattle.ld_flight.specs.Passes.{Flight}
use Rattle.ld_flight.specs.declared.given.Given as loader
use Rattle.ld_fits.specs.Play.{Stage}
use Rattle.ld_history.specs.declared.session.End.{End}
use Rattle.ld_history.specs.declared.session.End.TheVariants as end
use Rattle.ld_history.specs.declared.session.Last.{Last}
use mathlib.Core.List.{IsPrefix}
use Rattle.ld_moves.specs.Standing.{IsWaiting, Stands}
use Rattle.ld_moves.specs.Stocks.{IsSound}
use Rattle.ld_visit.specs.Ending.{Ended}
use Rattle.ld_visit.specs.Visits.{Visiting}
use Rattle.ld_book.specs.declared.answers.PublishAnswer.{PublishAnswer}
use Rattle.ld_book.specs.declared.answers.PublishAnswer.TheVariants as publishing
use Rattle.ld_session.specs.Serving.{Moved}
use Rattle.ld_session.specs.declared.landing.Landing.{Landing}
use Rattle.ld_session.specs.declared.landing.Landing.TheVariants as landing

abbrev pub end_of_landing : Landing → End
end_of_landing (landing.Published version) = end.Published version
end_of_landing landing.Same = end.Same
end_of_landing (landing.Failed before after) = end.Failed before after
end_of_landing landing.Lapsed = end.Lapsed

-- the same for a flight whose answer came
abbrev pub landing_by : PublishAnswer → Landing
landing_by (publishing.Published version) = landing.Published version
landing_by publishing.Same = landing.Same

-- The session waited at its stage, and stands as it stood.
pub record Waited (visit later : Visiting) (before after : Loading) : Type 0 where
  pub lock_is : later.lock ≡ visit.lock
  pub grows : IsPrefix visit.pages later.pages
  pub sound : IsSound later.limits later.pages
  pub moved : (stage : Stage) → IsWaiting stage → Moved visit later before after stage stage
  pub stands : (l : Last) → Stands visit.pages visit.session l → Stands later.pages later.session l

-- and the flight ended so
pub record Landed (visit later : Visiting) (before after : Loading) (flight : ℕ) (how : Landing) : Type 0 where
  pub waited : Waited visit later before after
  pub ended : Ended later.pages flight (end_of_landing how)

-- the loader gave nothing, or one answer for the flight, and didn't fail
pub record GainsAtMostOne (pass : Flight) (before after : Loading) : Type 0 where
  pub gained : List loader.Given
  pub given_are : after.given ≡ before.given ++ gained
  pub one : (gained ≡ []) ⊎ ((x : loader.Given) × (gained ≡ x ∷ []) × (x.flight ≡ pass.number) × (x.iri ≡ pass.iri))
  pub count : after.faults ≡ before.faults
