use Rattle.ld_flight.specs.Loads.{Loading}
use Rattle.ld_session.specs.Landing.{Waited}
use Rattle.ld_session.proofs.desk.Desk.watch.Given as goal

-- it waited so far
abbrev pub invariant-loop : goal.invariant-loop
invariant-loop g l = (loader : Loading) → Waited l.initial.visit l.visit loader loader
