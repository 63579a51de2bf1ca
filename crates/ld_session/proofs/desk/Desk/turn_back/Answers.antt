use Rattle.std.proofs.Common.{◌≡◌, ◌∙◌, [], refl, sym, subst, append-nil, inl}
use Rattle.ld_edge.specs.Faults.{Rose}
use Rattle.ld_flight.specs.Refusals.{IsCountedAs}
use Rattle.ld_session.proofs.Flights.{failed}
use Rattle.ld_session.proofs.desk.Desk.turn_back.Goals as goal

pub returns-in-Fault : goal.returns-in-Fault
returns-in-Fault g c before after same from to =
    let r = c.args.refused in
    let rose : Rose r.before r.after = subst (λ why. IsCountedAs why r.before r.after) c.in-Fault.is c.requires.counted in
    failed c.args.visit r.pass c.requires.leads c.fail-visit.result r.before r.after c.fail-visit.ensures rose before after same from to

pub returns-in-NoMemory : goal.returns-in-NoMemory
returns-in-NoMemory g c before after same from to =
    let r = c.args.refused in
    let stood : r.after ≡ r.before = subst (λ why. IsCountedAs why r.before r.after) c.in-NoMemory.is c.requires.counted in
    c.give_up.ensures before after (record { gained = []; given_are = same ∙ sym (append-nil before.given); one = inl refl; count = sym to ∙ stood ∙ from })
