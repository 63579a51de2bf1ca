use Rattle.std.proofs.Common.{sym, subst}
use Rattle.ld_fits.specs.Play.{Lacking}
use Rattle.ld_moves.specs.Standing.{IsOf}
use Rattle.ld_moves.proofs.Keeping.{of_stays}
use Rattle.ld_session.proofs.Ending.{brought_after}
use Rattle.ld_session.proofs.desk.Desk.lead.Goals as goal

pub come_down-requires-clause-of : goal.come_down-requires-clause-of
come_down-requires-clause-of g c =
    subst (λ n. IsOf c.fly-visit.result.0.pages n c.args.iri.now) (sym c.flight-flight.ensures) (of_stays c.args.visit.pages c.fly-visit.result.0.pages c.fly-visit.ensures.waited.grows c.args.pass.number c.args.iri.now c.requires.of)

pub returns : goal.returns
returns g c op envelope =
    let iri = c.args.iri.now in
    let before = g.L.Loader.loading c.args.loader.now in
    let after = g.L.Loader.loading c.fly-visit.new.loader in
    brought_after c.args.visit c.fly-visit.result.0 c.come_down.result.0 before after after op envelope iri (λ r. Lacking r op envelope iri) (λ r. Lacking r op envelope iri)
    (λ r. c.fly-visit.ensures.waited.moved (Lacking r op envelope iri) tt) c.come_down.result.1 (c.come_down.ensures after op envelope)
