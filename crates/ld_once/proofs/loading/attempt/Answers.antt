use Rattle.std.proofs.Common.{◌≡◌, ◌∙◌, ◌+◌, ap, sym, subst, length}
use Rattle.ld_answer.proofs.Missing.{missing_not_there}
use Rattle.ld_ctx.specs.Stocks.{shared_entries, stock_of}
use Rattle.ld_once.specs.Loading.{answering, Lacks}
use Rattle.ld_once.specs.Outcomes.{IsOutcome, IsSettled}
use Rattle.ld_once.proofs.Steps.{IfOk-map, IfSome-map, next_underway, next_faulted, next_cut, settled_now, in_part_now}
use Rattle.ld_once.proofs.loading.attempt.Goals as goal

pub returns-in-Missing-clause-more : goal.returns-in-Missing-clause-more
returns-in-Missing-clause-more g c =
    let f = answering c.args.op c.args.envelope.now in
    let missing = subst (λ o. IsOutcome (f (stock_of (shared_entries c.as_slice.result.now))) o) c.in-Missing.is c.in_ok-iri.ensures in
    let lacks = subst (λ i. Lacks f (shared_entries c.args.documents.now.items) i) (sym c.lead.ensures.iri)
    (subst (λ ds. Lacks f (shared_entries ds) c.in-Missing.iri) c.as_slice.ensures.value missing) in
    let number = c.lead.ensures.number ∙ ap (λ n. n + 1) c.requires.tower in
    IfOk-map c.load_missing.result _ _ (λ r joined is start under. next_underway f _ _ c.args.documents.now.items _ c.lead.result lacks c.requires.few number start
    (missing_not_there (stock_of (shared_entries c.args.documents.now.items)) c.args.op c.args.envelope.now c.lead.result.iri lacks) (joined is) under) c.load_missing.ensures.more

pub returns-in-Missing-clause-reached : goal.returns-in-Missing-clause-reached
returns-in-Missing-clause-reached g c =
    let f = answering c.args.op c.args.envelope.now in
    let missing = subst (λ o. IsOutcome (f (stock_of (shared_entries c.as_slice.result.now))) o) c.in-Missing.is c.in_ok-iri.ensures in
    let lacks = subst (λ i. Lacks f (shared_entries c.args.documents.now.items) i) (sym c.lead.ensures.iri)
    (subst (λ ds. Lacks f (shared_entries ds) c.in-Missing.iri) c.as_slice.ensures.value missing) in
    let number = c.lead.ensures.number ∙ ap (λ n. n + 1) c.requires.tower in
    IfOk-map c.load_missing.result _ _ (λ r some. IfSome-map r _ _ (λ reply fault start under.
    next_faulted f _ _ c.args.documents.now.items c.args.documents.now.items c.lead.result lacks c.requires.few number start reply.status reply.text.items fault under) some)
    c.load_missing.ensures.fault

pub returns-in-Settled-clause-reached : goal.returns-in-Settled-clause-reached
returns-in-Settled-clause-reached g c = λ start under.
    let f = answering c.args.op c.args.envelope.now in
    let is = subst (λ o. IsOutcome (f (stock_of (shared_entries c.as_slice.result.now))) o) c.in-Settled.is c.in_ok-iri.ensures in
    settled_now f start _ (shared_entries c.args.documents.now.items) under c.in-Settled.reply.status c.in-Settled.reply.text.items
    (subst (λ ds. IsSettled (f (stock_of (shared_entries ds))) c.in-Settled.reply.status c.in-Settled.reply.text.items) c.as_slice.ensures.value is)
