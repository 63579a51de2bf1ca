use Rattle.std.proofs.Common.{◌∙◌, ℕ, sym, ap, subst}
use Rattle.ld_fits.specs.Asks.{Revision}
use Rattle.ld_fits.specs.Play.{Revising}
use Rattle.ld_store.specs.Snapshots.{Shot}
use Rattle.ld_talk.specs.declared.requests.Replied.TheVariants as replies
use Rattle.ld_visit.specs.Taking.{Pins}
use Rattle.ld_visit.specs.Visits.{Took}
use Rattle.ld_session.specs.Requesting.{EndsAt, Requested, version_of}
use Rattle.ld_session.proofs.Requesting.{revision_requested, unmade_requested}
use Rattle.ld_session.proofs.Moving.{pinned_stands}
use Rattle.ld_session.proofs.Turning.{pinned_attempting}
use Rattle.ld_session.proofs.desk.Desk.revision.Goals as goal

pub reload-visit-requires-clause-pinned : goal.reload-visit-requires-clause-pinned
reload-visit-requires-clause-pinned g c =
    let v = c.args.visit in
    let later = c.pin-visit.result.0 in
    let t = subst (λ x. Took v later (Pins v.session x)) c.in-Ok.is c.pin-visit.ensures in
    pinned_stands later.pages later.session c.in-Ok.pinned.request (version_of c.in-Ok.pinned) (pinned_attempting v later c.in-Ok.pinned t).pinned

pub returns-in-Ok : goal.returns-in-Ok
returns-in-Ok g c =
    let v = c.args.visit in
    let later = c.pin-visit.result.0 in
    let p = c.in-Ok.pinned in
    let r = c.reload-visit.result in
    let t = subst (λ x. Took v later (Pins v.session x)) c.in-Ok.is c.pin-visit.ensures in
    let before = g.L.Loader.loading c.args.loader.now in
    let after = g.L.Loader.loading c.reload-visit.new.loader in
    let at = c.version-version.ensures ∙ ap (λ (s : Shot). s.version) c.deref.ensures in
    subst (λ (n : ℕ). Requested v r.0 before after (Revision c.args.iri.now) (replies.Answered p.request n r.1)) (sym at)
    (revision_requested v later r.0 p t before after c.args.iri.now r.1 (subst (λ (n : ℕ). EndsAt later r.0 before after n (λ q. Revising q c.args.iri.now) r.1) at c.reload-visit.ensures))

pub returns-in-Err : goal.returns-in-Err
returns-in-Err g c =
    let v = c.args.visit in
    let t = subst (λ x. Took v c.pin-visit.result.0 (Pins v.session x)) c.in-Err.is c.pin-visit.ensures in
    let loader = g.L.Loader.loading c.args.loader.now in
    subst (λ r. Requested v c.pin-visit.result.0 loader loader (Revision c.args.iri.now) r) (sym c.unmade.ensures)
    (unmade_requested v c.pin-visit.result.0 c.in-Err.refusal t c.requires.idle loader (Revision c.args.iri.now))
