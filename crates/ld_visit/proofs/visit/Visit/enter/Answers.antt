use Rattle.std.proofs.Common.{◌∙◌, ap, subst}
use Rattle.ld_book.specs.Seats.{lines_of}
use Rattle.ld_visit.specs.Turns.{Enters}
use Rattle.ld_visit.specs.Visits.{Visiting}
use Rattle.ld_visit.proofs.Entering.{entered}
use Rattle.ld_visit.proofs.visit.Visit.enter.Goals as goal

pub returns-clause-enters : goal.returns-clause-enters
returns-clause-enters g c =
    let i = c.self.inside in
    let t = c.take-turn.ensures in
    let e = c.events-events.ensures in
    subst (λ (x : Visiting). Enters x (record { seat = c.take-turn.result.seat; value = c.value.result.now })) c.self.view_is
    (entered i.session i.seat (record { seat = c.take-turn.result.seat; value = c.value.result.now }) c.self.invariant t.seat (ap lines_of c.value.ensures.value ∙ t.value) t.front t.quiet e.within e.legal e.documents)
