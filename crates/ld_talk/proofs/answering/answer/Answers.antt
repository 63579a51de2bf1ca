use Rattle.std.proofs.Common.{subst}
use Rattle.ld_fits.specs.Asks.{IsAsked}
use Rattle.ld_fits.specs.Play.{Stage}
use Rattle.ld_items.specs.Taking.{item_of, marked}
use Rattle.ld_talk.specs.Hearing.{asked_of}
use Rattle.ld_talk.specs.declared.hearing.Asking.{Asking}
use Rattle.ld_talk.proofs.Items.{left_out_spoken, recorded_spoken}
use Rattle.ld_talk.proofs.answering.answer.Goals as goal

pub returns-in-Unrecorded-clause-spoken : goal.returns-in-Unrecorded-clause-spoken
returns-in-Unrecorded-clause-spoken g c =
    let sink = g.N.Sink in
    let q = g.Q.Requests in
    left_out_spoken (q.moves c.args.requests c.args.outside.now c.args.requests c.args.outside.now) (q.full c.args.requests) (marked c.args.arrived.now) (sink.outgoing c.args.link.now) (sink.outgoing c.say-spoken.new.link) c.in-Unrecorded.outcome
    (subst (λ (a : Asking). IsAsked (item_of c.args.arrived.now.item) (asked_of a)) c.in-Unrecorded.is c.hear.ensures)
    (λ (stage : Stage). q.moves_none c.args.requests c.args.outside.now stage) c.say-spoken.result c.say-spoken.ensures.said

pub returns-in-Recorded-clause-spoken : goal.returns-in-Recorded-clause-spoken
returns-in-Recorded-clause-spoken g c =
    let sink = g.N.Sink in
    let q = g.Q.Requests in
    recorded_spoken (q.moves c.args.requests c.args.outside.now c.request-requests.result.0 c.request-requests.new.outside) (q.full c.request-requests.result.0) (marked c.args.arrived.now) (sink.outgoing c.args.link.now) (sink.outgoing c.say_reply-spoken.new.link) c.in-Recorded.request
    (subst (λ (a : Asking). IsAsked (item_of c.args.arrived.now.item) (asked_of a)) c.in-Recorded.is c.hear.ensures)
    c.request-requests.result.1 c.request-requests.ensures c.say_reply-spoken.result c.say_reply-spoken.ensures.said
