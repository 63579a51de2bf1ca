use Rattle.std.proofs.Common.{◌≡◌, ◌∙◌, ◌≤◌, refl, sym, subst, ap, length, arith}
use Rattle.ld_ctx.specs.Stocks.{shared_entries, stock_of}
use Rattle.ld_once.specs.Loading.{answering, held_limit, Lacks}
use Rattle.ld_once.specs.Outcomes.{IsOutcome, IsSettled}
use Rattle.ld_once.specs.Underway.{IsUnderway}
use Rattle.ld_once.proofs.Steps.{IfOk-both, as_many_shared, begun, many_now, settled_now}
use Rattle.ld_once.proofs.loading.answer.Goals as goal

pub loop-tower-init : goal.loop-tower-init
loop-tower-init g c =
    let none = c.new-documents.ensures.items in
    let f = answering c.args.op c.args.envelope.now in
    let start = g.L.Loader.loading c.args.loader.now in
    (subst (λ ds. IsUnderway f start start (shared_entries ds)) (sym none) (begun f start), c.new-tower.ensures ∙ sym (ap length none), grind (arith, ap length none))

pub returns-in-Missing-clause-reached : goal.returns-in-Missing-clause-reached
returns-in-Missing-clause-reached g c =
    let f = answering c.args.op c.args.envelope.now in
    let missing = subst (λ o. IsOutcome (f (stock_of (shared_entries c.as_slice.result.now))) o) c.in-Missing.is c.in_ok-iri.ensures in
    let lacks = subst (λ i. Lacks f (shared_entries c.loop-tower.documents.items) i) (sym c.as_str.ensures)
    (subst (λ ds. Lacks f (shared_entries ds) c.in-Missing.iri) c.as_slice.ensures.value missing) in
    let many : length c.loop-tower.documents.items ≡ held_limit = grind (arith, c.loop-tower-test.false, c.len.ensures, c.loop-tower.invariant.2) in
    IfOk-both c.refuse_many.result _ _ _
    (λ r status text. many_now f (g.L.Loader.loading c.args.loader.now) _ (shared_entries c.loop-tower.documents.items) c.loop-tower.invariant.0 c.as_str.result.now lacks
    (as_many_shared c.loop-tower.documents.items ∙ many) r.status r.text.items status text)
    c.refuse_many.ensures.status c.refuse_many.ensures.text

pub returns-clause-reached : goal.returns-clause-reached
returns-clause-reached g c =
    let f = answering c.args.op c.args.envelope.now in
    let is = subst (λ o. IsOutcome (f (stock_of (shared_entries c.as_slice.result.now))) o) c.in-Settled.is c.in_ok-iri.ensures in
    settled_now f (g.L.Loader.loading c.args.loader.now) _ (shared_entries c.loop-tower.documents.items) c.loop-tower.invariant.0 c.in-Settled.reply.status c.in-Settled.reply.text.items
    (subst (λ ds. IsSettled (f (stock_of (shared_entries ds))) c.in-Settled.reply.status c.in-Settled.reply.text.items) c.as_slice.ensures.value is)
