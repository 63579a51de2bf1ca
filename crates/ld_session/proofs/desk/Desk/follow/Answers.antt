use Rattle.std.proofs.Common.{sym, subst, inl, Some, None}
use Rattle.ld_answer.specs.Bodies.{too_many_body}
use Rattle.ld_fits.specs.Play.{Lacking, replied}
use Rattle.ld_head.specs.declared.outcome.Outcome.TheVariants as outcome
use Rattle.ld_session.specs.Adding.{moved_none}
use Rattle.ld_session.specs.Requesting.{Brought, Lacked, lacked_to}
use Rattle.ld_session.proofs.desk.Desk.follow.Goals as goal

pub returns-in-There : goal.returns-in-There
returns-in-There g c op envelope =
    let v = c.args.visit in
    let iri = c.args.iri.now in
    let loader = g.L.Loader.loading c.args.loader.now in
    subst (λ x. Brought v v loader loader op envelope iri (λ r. lacked_to r op envelope iri x) None) (sym c.in-There.is)
    (inl (subst (Lacked v.pages v.session iri) c.in-There.is c.requires.lacked), λ r. moved_none v loader (Lacking r op envelope iri) c.requires.sound)

pub returns-in-Joined : goal.returns-in-Joined
returns-in-Joined g c op envelope =
    let v = c.args.visit in
    let iri = c.args.iri.now in
    let loader = g.L.Loader.loading c.args.loader.now in
    subst (λ x. Brought v c.join.result.0 loader loader op envelope iri (λ r. lacked_to r op envelope iri x) c.join.result.1) (sym c.in-Joined.is) (c.join.ensures loader op envelope)

pub returns-in-Lead : goal.returns-in-Lead
returns-in-Lead g c op envelope =
    let v = c.args.visit in
    let iri = c.args.iri.now in
    let before = g.L.Loader.loading c.args.loader.now in
    let after = g.L.Loader.loading c.lead.new.loader in
    subst (λ x. Brought v c.lead.result.0 before after op envelope iri (λ r. lacked_to r op envelope iri x) c.lead.result.1) (sym c.in-Lead.is) (c.lead.ensures op envelope)

pub returns-in-TooMany : goal.returns-in-TooMany
returns-in-TooMany g c op envelope =
    let v = c.args.visit in
    let iri = c.args.iri.now in
    let loader = g.L.Loader.loading c.args.loader.now in
    subst (λ body. Brought v v loader loader op envelope iri (λ r. lacked_to r op envelope iri c.args.lacked) (Some (outcome.TooMany body))) (sym c.requires.body)
    (subst (λ x. Brought v v loader loader op envelope iri (λ r. lacked_to r op envelope iri x) (Some (outcome.TooMany (too_many_body iri)))) (sym c.in-TooMany.is)
    (subst (Lacked v.pages v.session iri) c.in-TooMany.is c.requires.lacked, λ r. moved_none v loader (replied r (Some (outcome.TooMany (too_many_body iri)))) c.requires.sound))

pub returns-in-StoreFull : goal.returns-in-StoreFull
returns-in-StoreFull g c op envelope =
    let v = c.args.visit in
    let iri = c.args.iri.now in
    let loader = g.L.Loader.loading c.args.loader.now in
    subst (λ x. Brought v v loader loader op envelope iri (λ r. lacked_to r op envelope iri x) (Some outcome.StoreFull)) (sym c.in-StoreFull.is)
    (subst (Lacked v.pages v.session iri) c.in-StoreFull.is c.requires.lacked, λ r. moved_none v loader (replied r (Some outcome.StoreFull)) c.requires.sound)

pub returns-in-ArchiveFull : goal.returns-in-ArchiveFull
returns-in-ArchiveFull g c op envelope =
    let v = c.args.visit in
    let iri = c.args.iri.now in
    let loader = g.L.Loader.loading c.args.loader.now in
    subst (λ x. Brought v v loader loader op envelope iri (λ r. lacked_to r op envelope iri x) (Some (outcome.ArchiveFull c.in-ArchiveFull.bytes))) (sym c.in-ArchiveFull.is)
    (subst (Lacked v.pages v.session iri) c.in-ArchiveFull.is c.requires.lacked, λ r. moved_none v loader (replied r (Some (outcome.ArchiveFull c.in-ArchiveFull.bytes))) c.requires.sound)
