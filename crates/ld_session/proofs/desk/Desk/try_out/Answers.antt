use Rattle.std.proofs.Common.{◌∙◌, ℕ, sym, ap, subst}
use Rattle.ld_fits.specs.Play.{Pinned}
use Rattle.ld_store.specs.Snapshots.{Shot}
use Rattle.ld_session.specs.Requesting.{Tried, TriedOut, given_at}
use Rattle.ld_session.proofs.Requesting.{some_request, trying_done, trying_first, trying_next}
use Rattle.ld_session.proofs.desk.Desk.try_out.Goals as goal

pub loop-init : goal.loop-init
loop-init g c = trying_first c.args.visit (g.L.Loader.loading c.args.loader.now) c.args.op c.args.envelope.now c.args.first c.requires.at

pub attempt-next-requires-clause-lock : goal.attempt-next-requires-clause-lock
attempt-next-requires-clause-lock g c = (c.loop.invariant.moved some_request).lock_is ∙ c.requires.lock

pub loop-preserved : goal.loop-preserved
loop-preserved g c =
    let a = c.args in
    let env = a.envelope.now in
    let pin = c.loop.pinned in
    let x = g.L.Loader.loading a.loader.now in
    let y = g.L.Loader.loading c.loop.loader in
    let z = g.L.Loader.loading c.attempt-next.new.loader in
    trying_next a.visit c.loop.visit c.attempt-next.result.0 x y z a.op env a.first pin c.loop.invariant c.in-Again.later
    (subst (λ t. Tried c.loop.visit c.attempt-next.result.0 y z a.op env (λ r. Pinned r a.op env (given_at pin a.op env)) t) c.in-Again.is c.attempt-next.ensures)

pub returns-in-Answered : goal.returns-in-Answered
returns-in-Answered g c =
    let a = c.args in
    let env = a.envelope.now in
    let pin = c.loop.pinned in
    let x = g.L.Loader.loading a.loader.now in
    let y = g.L.Loader.loading c.loop.loader in
    let z = g.L.Loader.loading c.attempt-next.new.loader in
    subst (λ (n : ℕ). TriedOut a.visit c.attempt-next.result.0 x z a.op env a.first n c.in-Answered.outcome) (sym (c.version.ensures ∙ ap (λ (s : Shot). s.version) c.deref.ensures))
    (trying_done a.visit c.loop.visit c.attempt-next.result.0 x y z a.op env a.first pin c.loop.invariant c.in-Answered.outcome
    (subst (λ t. Tried c.loop.visit c.attempt-next.result.0 y z a.op env (λ r. Pinned r a.op env (given_at pin a.op env)) t) c.in-Answered.is c.attempt-next.ensures))
