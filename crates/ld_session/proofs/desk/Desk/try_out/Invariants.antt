use Rattle.ld_session.proofs.Requesting.{Trying}
use Rattle.ld_session.proofs.desk.Desk.try_out.Given as goal

-- it tried so far
abbrev pub invariant-loop : goal.invariant-loop
invariant-loop g l =
    Trying l.initial.visit l.visit (g.L.Loader.loading l.initial.loader) (g.L.Loader.loading l.loader) l.op l.envelope l.initial.pinned l.pinned
