use Rattle.std.proofs.Common.{sym, subst, Some}
use Rattle.ld_fits.specs.Play.{Reloading, Request, replied}
use Rattle.ld_head.specs.declared.outcome.Outcome.TheVariants as outcome
use Rattle.ld_moves.specs.Standing.{IsOf}
use Rattle.ld_moves.proofs.Keeping.{of_stays}
use Rattle.ld_session.specs.Adding.{moved_none}
use Rattle.ld_session.specs.Requesting.{EndsAt, Revised, revised_to}
use Rattle.ld_session.proofs.Ending.{ends_at_after}
use Rattle.ld_session.proofs.desk.Desk.go_on.Goals as goal

pub conclude-requires-clause-of : goal.conclude-requires-clause-of
conclude-requires-clause-of g c =
    let v = c.args.visit in
    let later = c.fly-visit.result.0 in
    let h = subst (Revised v.pages v.session c.args.iri.now) c.in-Lead.is c.requires.revised in
    subst (λ n. IsOf later.pages n c.args.iri.now) (sym c.flight-flight.ensures) (of_stays v.pages later.pages c.fly-visit.ensures.waited.grows c.in-Lead.pass.number c.args.iri.now h.2)

pub returns-in-Lead : goal.returns-in-Lead
returns-in-Lead g c =
    let v = c.args.visit in
    let iri = c.args.iri.now in
    let before = g.L.Loader.loading c.args.loader.now in
    let after = g.L.Loader.loading c.fly-visit.new.loader in
    subst (λ x. EndsAt v c.conclude.result.0 before after c.args.version (λ r. revised_to r iri x) c.conclude.result.1) (sym c.in-Lead.is)
    (ends_at_after v c.fly-visit.result.0 c.conclude.result.0 before after after c.args.version (λ r. Reloading r iri) (λ r. Reloading r iri) (λ r. c.fly-visit.ensures.waited.moved (Reloading r iri) tt) c.conclude.result.1 (c.conclude.ensures after))

pub returns-in-NotStored : goal.returns-in-NotStored
returns-in-NotStored g c =
    let v = c.args.visit in
    let loader = g.L.Loader.loading c.args.loader.now in
    subst (λ x. EndsAt v v loader loader c.args.version (λ r. revised_to r c.args.iri.now x) (outcome.NotStored c.in-NotStored.version)) (sym c.in-NotStored.is)
    (subst (Revised v.pages v.session c.args.iri.now) c.in-NotStored.is c.requires.revised, λ r. let at : Request = record r { version = c.args.version } in moved_none v loader (replied at (Some (outcome.NotStored c.in-NotStored.version))) c.requires.sound)

pub returns-in-Flying : goal.returns-in-Flying
returns-in-Flying g c =
    let v = c.args.visit in
    let loader = g.L.Loader.loading c.args.loader.now in
    subst (λ x. EndsAt v v loader loader c.args.version (λ r. revised_to r c.args.iri.now x) (outcome.Flying c.in-Flying.flight)) (sym c.in-Flying.is)
    (subst (Revised v.pages v.session c.args.iri.now) c.in-Flying.is c.requires.revised, λ r. let at : Request = record r { version = c.args.version } in moved_none v loader (replied at (Some (outcome.Flying c.in-Flying.flight))) c.requires.sound)

pub returns-in-ArchiveFull : goal.returns-in-ArchiveFull
returns-in-ArchiveFull g c =
    let v = c.args.visit in
    let loader = g.L.Loader.loading c.args.loader.now in
    subst (λ x. EndsAt v v loader loader c.args.version (λ r. revised_to r c.args.iri.now x) (outcome.ArchiveFull c.in-ArchiveFull.bytes)) (sym c.in-ArchiveFull.is)
    (subst (Revised v.pages v.session c.args.iri.now) c.in-ArchiveFull.is c.requires.revised, λ r. let at : Request = record r { version = c.args.version } in moved_none v loader (replied at (Some (outcome.ArchiveFull c.in-ArchiveFull.bytes))) c.requires.sound)
