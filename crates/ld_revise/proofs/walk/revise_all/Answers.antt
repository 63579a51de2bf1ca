use Rattle.std.proofs.Common.{◌≡◌, ◌∙◌, List, [], ◌∷◌, ℕ, length, refl, ap, arith, map, subst, sym}
use Rattle.ld_fits.specs.Play.{Revising}
use Rattle.ld_store.specs.Snapshots.{Shot}
use Rattle.ld_moves.proofs.Joining.{prefix_trans}
use Rattle.ld_session.specs.Requesting.{EndsAt}
use Rattle.ld_revise.specs.Rounds.{unheard}
use Rattle.ld_revise.specs.Walking.{Sums, Walks, nothing}
use Rattle.ld_revise.specs.declared.round.RoundEnd.TheVariants as ending
use Rattle.ld_revise.proofs.Making.{made}
use Rattle.ld_revise.proofs.Reaching.{reached_lacked, reached_next}
use Rattle.ld_revise.proofs.Walking.{walks_empty, walks_some}
use Rattle.ld_revise.proofs.walk.revise_all.Goals as goal

nil : {A : Type 0} (xs : List A) → length xs ≡ 0 → xs ≡ []
nil [] is = refl
nil (x ∷ xs) is = absurd (omega (arith, is))

pub returns-in_default : goal.returns-in_default
returns-in_default g c start t =
    let loader = g.L.Loader.loading c.args.loader.now in
    let none = c.placed.ensures ∙ ap (λ (s : Shot). s.placed.0) c.deref.ensures in
    subst (λ tally. Walks start c.answer-visit.result loader loader tally ending.Done) (sym c.new.ensures)
    (walks_empty start c.args.visit c.args.first.now t c.answer-visit.result c.answer-visit.ensures (sym none ∙ nil c.placed.result.now c.in_default.ensures.cases) loader)

pub revise_rest-requires-clause-lock : goal.revise_rest-requires-clause-lock
revise_rest-requires-clause-lock g c = (c.reload-visit.ensures.1 (unheard 0 0)).lock_is ∙ c.requires.lock

pub revise_rest-requires-clause-sound : goal.revise_rest-requires-clause-sound
revise_rest-requires-clause-sound g c = (c.reload-visit.ensures.1 (unheard 0 0)).moves.sound

pub returns-in-Some-with : goal.returns-in-Some-with
returns-in-Some-with g c start t =
    let v = c.args.visit in
    let p = c.args.first.now in
    let r = c.reload-visit.result in
    let later = c.revise_rest.result.0 in
    let iri = c.in-Some.field-0-0.now.0 in
    let rest = map (λ e. e.0) c.in-Some.rest.now in
    let x = g.L.Loader.loading c.args.loader.now in
    let y = g.L.Loader.loading c.reload-visit.new.loader in
    let z = g.L.Loader.loading c.revise_rest.new.loader in
    let at = c.version-version.ensures ∙ ap (λ (s : Shot). s.version) c.deref-2.ensures in
    let ends = subst (λ (n : ℕ). EndsAt v r.0 x y n (λ q. Revising q iri) r.1) at c.reload-visit.ensures in
    let m = made start v p t r.0 x y iri r.1 ends in
    let one = subst (λ u. Sums u (r.1 ∷ []) c.in-Some-with.tally) c.new-2.ensures c.in-Some-with.ensures in
    let all = reached_next start r.0 x y iri r.1 _ m later z rest nothing c.in-Some-with.tally c.revise_rest.result.1 c.revise_rest.result.2 c.revise_rest.ensures.0 one c.revise_rest.ensures.1 in
    let names = sym (ap (λ items. map (λ e. e.0) items) (c.placed.ensures ∙ ap (λ (s : Shot). s.placed.0) c.deref.ensures)) ∙ ap (λ items. map (λ e. e.0) items) c.in-Some.ensures.cases.0 in
    walks_some start v p t later x z iri rest c.revise_rest.result.1 c.revise_rest.result.2 _ names (prefix_trans v.pages r.0.pages later.pages (c.reload-visit.ensures.1 (unheard 0 0)).moves.grows c.revise_rest.ensures.1.went.grows) all

pub returns : goal.returns
returns g c start t =
    let v = c.args.visit in
    let p = c.args.first.now in
    let r = c.reload-visit.result in
    let iri = c.in-Some.field-0-0.now.0 in
    let rest = map (λ e. e.0) c.in-Some.rest.now in
    let x = g.L.Loader.loading c.args.loader.now in
    let y = g.L.Loader.loading c.reload-visit.new.loader in
    let at = c.version-version.ensures ∙ ap (λ (s : Shot). s.version) c.deref-2.ensures in
    let ends = subst (λ (n : ℕ). EndsAt v r.0 x y n (λ q. Revising q iri) r.1) at c.reload-visit.ensures in
    let m = made start v p t r.0 x y iri r.1 ends in
    let all = reached_lacked start r.0 x y iri r.1 _ m c.in-None.ensures rest nothing in
    let names = sym (ap (λ items. map (λ e. e.0) items) (c.placed.ensures ∙ ap (λ (s : Shot). s.placed.0) c.deref.ensures)) ∙ ap (λ items. map (λ e. e.0) items) c.in-Some.ensures.cases.0 in
    subst (λ tally. Walks start r.0 x y tally ending.NoMemory) (sym c.new-in-None.ensures)
    (walks_some start v p t r.0 x y iri rest nothing ending.NoMemory _ names (c.reload-visit.ensures.1 (unheard 0 0)).moves.grows all)
