use Rattle.std.proofs.Common.{◌≡◌, ◌∙◌, ◌++◌, ◌∷◌, [], refl, sym, ap, subst, inr, Ok, Err}
use Rattle.ld_flight.specs.Loads.{entry_of}
use Rattle.ld_flight.specs.Readied.{Readied}
use Rattle.ld_tree.specs.declared.no_memory.NoMemory.{NoMemory}
use Rattle.ld_visit.specs.Ending.{IsLeading}
use Rattle.ld_visit.specs.Taking.{Lands}
use Rattle.ld_visit.specs.Visits.{Took}
use Rattle.ld_session.specs.Landing.{Landed, landing_by}
use Rattle.ld_session.proofs.Flights.{landed, landed_later, refused_back, still_leads, tells_of}
use Rattle.ld_session.proofs.desk.Desk.land.Goals as goal

pub returns-in-Err : goal.returns-in-Err
returns-in-Err g c before after given same =
    let a = c.args.loaded in
    let back = c.in-Err.ensures.back in
    subst (λ l. Landed c.args.visit c.give_up.result.0 before after l.pass.number c.give_up.result.1) back
    (c.give_up.ensures before after (record { gained = entry_of a.pass a.url a.text ∷ []; given_are = given; one = inr (entry_of a.pass a.url a.text, refl, ap (λ l. l.pass.number) (sym back), ap (λ l. l.pass.iri) (sym back)); count = same }))

pub give_up-requires-in-Err-published-clause-leads : goal.give_up-requires-in-Err-published-clause-leads
give_up-requires-in-Err-published-clause-leads g c =
    let v = c.args.visit in
    let later = c.publish-visit.result.0 in
    let ready = c.in-Ok.ready in
    let lead = subst (λ p. IsLeading v.pages v.session p) (sym c.in-Ok.ensures.pass) c.requires.leads in
    let t = subst (λ x. Took v later (Lands ready x)) c.in-Err-published.is c.publish-visit.ensures.took in
    let back : c.in-Err-published.ready ≡ ready = refused_back c.publish-visit.result.1 c.in-Err-published.ready c.in-Err-published.field-0-1 ready c.in-Err-published.is c.publish-visit.ensures.back in
    subst (λ p. IsLeading later.pages later.session p) (ap (λ r. r.pass) (sym back) ∙ sym c.into_pass.ensures) (still_leads (Readied × NoMemory) v later ready (c.in-Err-published.ready, c.in-Err-published.field-0-1) t lead)

pub returns-in-Ok-published : goal.returns-in-Ok-published
returns-in-Ok-published g c before after given same =
    let v = c.args.visit in
    let a = c.args.loaded in
    let later = c.publish-visit.result.0 in
    let ready = c.in-Ok.ready in
    let e = c.in-Ok.ensures in
    let lead = subst (λ p. IsLeading v.pages v.session p) (sym e.pass) c.requires.leads in
    let t = subst (λ x. Took v later (Lands ready x)) c.in-Ok-published.is c.publish-visit.ensures.took in
    subst (λ l. Landed v later before after a.pass.number l) (sym c.landing_by.ensures)
    (subst (λ p. Landed v later before after p.number (landing_by c.in-Ok-published.answer)) e.pass
    (landed v ready lead (tells_of ready.doc a.url a.text ready.length ready.mark e.doc e.length e.mark c.requires.short) (Readied × NoMemory) later c.in-Ok-published.answer t a.url a.text e.doc e.length e.mark before after
    (given ∙ ap (λ p. before.given ++ entry_of p a.url a.text ∷ []) (sym e.pass)) same))

pub returns-in-Err-published : goal.returns-in-Err-published
returns-in-Err-published g c before after given same =
    let v = c.args.visit in
    let a = c.args.loaded in
    let later = c.publish-visit.result.0 in
    let ready = c.in-Ok.ready in
    let t = subst (λ x. Took v later (Lands ready x)) c.in-Err-published.is c.publish-visit.ensures.took in
    let back : c.in-Err-published.ready ≡ ready = refused_back c.publish-visit.result.1 c.in-Err-published.ready c.in-Err-published.field-0-1 ready c.in-Err-published.is c.publish-visit.ensures.back in
    let pass_is = c.into_pass.ensures ∙ ap (λ r. r.pass) back ∙ c.in-Ok.ensures.pass in
    let x = entry_of a.pass a.url a.text in
    let h = c.give_up-in-Err-published.ensures before after (record { gained = x ∷ []; given_are = given; one = inr (x, refl, ap (λ p. p.number) (sym pass_is), ap (λ p. p.iri) (sym pass_is)); count = same }) in
    landed_later (Readied × NoMemory) v later ready (c.in-Err-published.ready, c.in-Err-published.field-0-1) t c.give_up-in-Err-published.result.0 before after a.pass.number c.give_up-in-Err-published.result.1
    (subst (λ p. Landed later c.give_up-in-Err-published.result.0 before after p.number c.give_up-in-Err-published.result.1) pass_is h)
