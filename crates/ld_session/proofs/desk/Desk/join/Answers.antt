use Rattle.std.proofs.Common.{◌∙◌, inr}
use Rattle.ld_history.specs.declared.session.Last.TheVariants as last
use Rattle.ld_moves.proofs.Keeping.{of_stays}
use Rattle.ld_fits.specs.Play.{Lacking}
use Rattle.ld_session.proofs.Ending.{brought_after}
use Rattle.ld_session.proofs.Flights.{no_loader}
use Rattle.ld_session.proofs.desk.Desk.join.Goals as goal

pub come_down-requires-clause-lock : goal.come_down-requires-clause-lock
come_down-requires-clause-lock g c = (c.watch-visit.ensures no_loader).waited.lock_is ∙ c.requires.lock

pub come_down-requires-clause-sound : goal.come_down-requires-clause-sound
come_down-requires-clause-sound g c = (c.watch-visit.ensures no_loader).waited.sound

pub come_down-requires-clause-loads : goal.come_down-requires-clause-loads
come_down-requires-clause-loads g c = inr ((c.watch-visit.ensures no_loader).waited.stands (last.Joined c.args.flight) c.requires.joined)

pub come_down-requires-clause-of : goal.come_down-requires-clause-of
come_down-requires-clause-of g c = of_stays c.args.visit.pages c.watch-visit.result.0.pages (c.watch-visit.ensures no_loader).waited.grows c.args.flight c.args.iri.now c.requires.of

pub come_down-requires-clause-ended : goal.come_down-requires-clause-ended
come_down-requires-clause-ended g c = (c.watch-visit.ensures no_loader).ended

pub returns : goal.returns
returns g c loader op envelope =
    let iri = c.args.iri.now in
    brought_after c.args.visit c.watch-visit.result.0 c.come_down.result.0 loader loader loader op envelope iri (λ r. Lacking r op envelope iri) (λ r. Lacking r op envelope iri)
    (λ r. (c.watch-visit.ensures loader).waited.moved (Lacking r op envelope iri) tt) c.come_down.result.1 (c.come_down.ensures loader op envelope)
