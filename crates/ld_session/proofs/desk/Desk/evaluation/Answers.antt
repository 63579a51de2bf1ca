use Rattle.std.proofs.Common.{sym, subst}
use Rattle.ld_fits.specs.Asks.{Evaluation}
use Rattle.ld_visit.specs.Taking.{Pins}
use Rattle.ld_visit.specs.Visits.{Took}
use Rattle.ld_session.specs.Requesting.{Requested}
use Rattle.ld_session.proofs.Requesting.{evaluation_requested, unmade_requested}
use Rattle.ld_session.proofs.Turning.{pinned_attempting}
use Rattle.ld_session.proofs.desk.Desk.evaluation.Goals as goal

pub try_out-visit-requires-clause-at : goal.try_out-visit-requires-clause-at
try_out-visit-requires-clause-at g c =
    let v = c.args.visit in
    let t = subst (λ x. Took v c.pin-visit.result.0 (Pins v.session x)) c.in-Ok.is c.pin-visit.ensures in
    pinned_attempting v c.pin-visit.result.0 c.in-Ok.first t

pub returns-in-Ok : goal.returns-in-Ok
returns-in-Ok g c =
    let v = c.args.visit in
    let t = subst (λ x. Took v c.pin-visit.result.0 (Pins v.session x)) c.in-Ok.is c.pin-visit.ensures in
    let r = c.try_out-visit.result in
    evaluation_requested v c.pin-visit.result.0 r.0 c.in-Ok.first t (g.L.Loader.loading c.args.loader.now) (g.L.Loader.loading c.try_out-visit.new.loader) c.args.op c.args.envelope.now r.1 r.2 c.try_out-visit.ensures

pub returns-in-Err : goal.returns-in-Err
returns-in-Err g c =
    let v = c.args.visit in
    let t = subst (λ x. Took v c.pin-visit.result.0 (Pins v.session x)) c.in-Err.is c.pin-visit.ensures in
    let loader = g.L.Loader.loading c.args.loader.now in
    subst (λ r. Requested v c.pin-visit.result.0 loader loader (Evaluation c.args.op c.args.envelope.now) r) (sym c.unmade.ensures)
    (unmade_requested v c.pin-visit.result.0 c.in-Err.refusal t c.requires.idle loader (Evaluation c.args.op c.args.envelope.now))
