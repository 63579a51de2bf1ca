use Rattle.std.proofs.Common.{sym, subst}
use Rattle.ld_session.proofs.Turning.{pinned_attempting}
use Rattle.ld_visit.specs.Taking.{Pins}
use Rattle.ld_visit.specs.Visits.{Took}
use Rattle.ld_revise.specs.Walking.{Walks}
use Rattle.ld_revise.proofs.Walking.{walks_refused}
use Rattle.ld_revise.proofs.walk.walk.Goals as goal

pub revise_all-requires-clause-at : goal.revise_all-requires-clause-at
revise_all-requires-clause-at g c =
    let v = c.args.visit in
    pinned_attempting v c.pin-visit.result.0 c.in-Ok.first (subst (λ x. Took v c.pin-visit.result.0 (Pins v.session x)) c.in-Ok.is c.pin-visit.ensures)

pub returns-in-Err : goal.returns-in-Err
returns-in-Err g c =
    let v = c.args.visit in
    let later = c.pin-visit.result.0 in
    let loader = g.L.Loader.loading c.args.loader.now in
    let t = subst (λ x. Took v later (Pins v.session x)) c.in-Err.is c.pin-visit.ensures in
    subst (λ tally. Walks v later loader loader tally c.end_for.result) (sym c.new.ensures)
    (subst (λ e. Walks v later loader loader _ e) (sym c.end_for.ensures) (walks_refused v later c.in-Err.refusal t c.requires.idle loader))
