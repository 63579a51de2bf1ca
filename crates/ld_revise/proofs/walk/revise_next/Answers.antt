use Rattle.std.proofs.Common.{◌∙◌, [], ◌∷◌, ℕ, ap, subst, sym, arith}
use Rattle.ld_fits.specs.Play.{Revising}
use Rattle.ld_store.specs.Snapshots.{Shot}
use Rattle.ld_visit.specs.Taking.{Pins}
use Rattle.ld_visit.specs.Visits.{Took}
use Rattle.ld_session.specs.Requesting.{EndsAt}
use Rattle.ld_revise.specs.Walking.{Reached}
use Rattle.ld_revise.proofs.Counting.{pages_few}
use Rattle.ld_revise.proofs.Making.{made, stands_pinned}
use Rattle.ld_revise.proofs.Reaching.{reached_lacked, reached_refused}
use Rattle.ld_revise.proofs.walk.revise_next.Goals as goal

pub reload-visit-requires-clause-pinned : goal.reload-visit-requires-clause-pinned
reload-visit-requires-clause-pinned g c =
    let v = c.args.visit in
    let t = subst (λ x. Took v c.pin-visit.result.0 (Pins v.session x)) c.in-Ok.is c.pin-visit.ensures in
    stands_pinned v c.pin-visit.result.0 c.in-Ok.pinned t

pub with-requires : goal.with-requires
with-requires g c =
    let few = pages_few c.args.visit.limits c.args.visit.pages c.requires.sound in
    let small = c.requires.small in
    record { few = omega (arith, few, small) }

pub returns-in-Some : goal.returns-in-Some
returns-in-Some g c =
    let v = c.args.visit in
    let later = c.pin-visit.result.0 in
    let r = c.reload-visit.result in
    let t = subst (λ x. Took v later (Pins v.session x)) c.in-Ok.is c.pin-visit.ensures in
    let before = g.L.Loader.loading c.args.loader.now in
    let after = g.L.Loader.loading c.reload-visit.new.loader in
    let at = c.version-version.ensures ∙ ap (λ (s : Shot). s.version) c.deref.ensures in
    let ends = subst (λ (n : ℕ). EndsAt later r.0 before after n (λ q. Revising q c.args.iri.now) r.1) at c.reload-visit.ensures in
    (r.1, _, made v later c.in-Ok.pinned t r.0 before after c.args.iri.now r.1 ends, c.in-Some.ensures)

pub returns-in-Ok : goal.returns-in-Ok
returns-in-Ok g c =
    let v = c.args.visit in
    let later = c.pin-visit.result.0 in
    let r = c.reload-visit.result in
    let t = subst (λ x. Took v later (Pins v.session x)) c.in-Ok.is c.pin-visit.ensures in
    let before = g.L.Loader.loading c.args.loader.now in
    let after = g.L.Loader.loading c.reload-visit.new.loader in
    let at = c.version-version.ensures ∙ ap (λ (s : Shot). s.version) c.deref.ensures in
    let ends = subst (λ (n : ℕ). EndsAt later r.0 before after n (λ q. Revising q c.args.iri.now) r.1) at c.reload-visit.ensures in
    let m = made v later c.in-Ok.pinned t r.0 before after c.args.iri.now r.1 ends in
    (_, λ iris. reached_lacked v r.0 before after c.args.iri.now r.1 _ m c.in-None.ensures iris c.args.tally)

pub returns : goal.returns
returns g c =
    let v = c.args.visit in
    let later = c.pin-visit.result.0 in
    let t = subst (λ x. Took v later (Pins v.session x)) c.in-Err.is c.pin-visit.ensures in
    let loader = g.L.Loader.loading c.args.loader.now in (
      [],
      λ iris. subst (λ e. Reached v later loader loader (c.args.iri.now ∷ iris) c.args.tally c.args.tally e []) (sym c.end_for.ensures)
          (reached_refused v later loader c.in-Err.refusal t c.requires.idle (c.args.iri.now ∷ iris) c.args.tally),
    )
