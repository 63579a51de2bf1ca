use Rattle.std.proofs.Common.{◌≡◌, ◌∙◌, ◌+◌, [], ◌∷◌, ap, arith, drop, map, subst, sym}
use Rattle.std.proofs.lemmas.List.{drop_all, drop_more}
use Rattle.ld_revise.specs.Walking.{Comes, Reached}
use Rattle.ld_revise.specs.declared.round.RoundEnd.TheVariants as ending
use Rattle.ld_revise.proofs.Reaching.{reached_done}
use Rattle.ld_revise.proofs.Resting.{Resting, resting_ends, resting_next}
use Rattle.ld_revise.proofs.walk.revise_rest.Goals as goal

pub returns-in-Err : goal.returns-in-Err
returns-in-Err g c =
    let l = c.loop-iri in
    let item = c.loop-iri-item.result in
    let all = map (λ e. e.0) c.args.rest.now in
    let x = g.L.Loader.loading c.args.loader.now in
    let y = g.L.Loader.loading l.loader in
    let z = g.L.Loader.loading c.revise_next-next.new.loader in
    let mid = c.revise_next-next.result.0 in
    let next : drop l.iri-index c.args.rest.now ≡ item ∷ drop (l.iri-index + 1) c.args.rest.now
    = drop_more c.args.rest.now l.iri-index item c.loop-iri-test.true ∙ ap (λ i. i ∷ drop (l.iri-index + 1) c.args.rest.now) (sym c.loop-iri-item.is) in
    let r = subst (λ items. Resting c.args.visit l.visit x y all (map (λ e. e.0) items) c.args.tally l.tally) next l.invariant in
    let came = subst (λ r. Comes l.visit mid y z item.0 l.tally r) c.in-Err.is c.revise_next-next.ensures in
    resting_ends c.args.visit l.visit mid x y z all item.0 (map (λ e. e.0) (drop (l.iri-index + 1) c.args.rest.now)) c.args.tally l.tally r c.in-Err.end came

pub loop-iri-preserved : goal.loop-iri-preserved
loop-iri-preserved g c =
    let l = c.loop-iri in
    let item = c.loop-iri-item.result in
    let all = map (λ e. e.0) c.args.rest.now in
    let x = g.L.Loader.loading c.args.loader.now in
    let y = g.L.Loader.loading l.loader in
    let z = g.L.Loader.loading c.revise_next-next.new.loader in
    let mid = c.revise_next-next.result.0 in
    let next : drop l.iri-index c.args.rest.now ≡ item ∷ drop (l.iri-index + 1) c.args.rest.now
    = drop_more c.args.rest.now l.iri-index item c.loop-iri-test.true ∙ ap (λ i. i ∷ drop (l.iri-index + 1) c.args.rest.now) (sym c.loop-iri-item.is) in
    let r = subst (λ items. Resting c.args.visit l.visit x y all (map (λ e. e.0) items) c.args.tally l.tally) next l.invariant in
    let came = subst (λ r. Comes l.visit mid y z item.0 l.tally r) c.in-Ok.is c.revise_next-next.ensures in
    resting_next c.args.visit l.visit mid x y z all item.0 (map (λ e. e.0) (drop (l.iri-index + 1) c.args.rest.now)) c.args.tally l.tally r c.in-Ok.more came

pub returns : goal.returns
returns g c =
    let l = c.loop-iri in
    let y = g.L.Loader.loading l.loader in
    let none = drop_all l.iri-index c.args.rest.now (omega (arith, c.loop-iri-test.false)) in
    l.invariant.whole l.visit y l.tally ending.Done []
    (subst (λ items. Reached l.visit l.visit y y (map (λ e. e.0) items) l.tally l.tally ending.Done []) (sym none) (reached_done l.visit y l.tally l.invariant.sound l.invariant.idle))
