use Rattle.ld_items.specs.Taking.{marked}
use Rattle.ld_talk.proofs.Puts.{puts}
use Rattle.ld_talk.proofs.talking.speak.Goals as goal

pub returns-clause-put : goal.returns-clause-put
returns-clause-put g c =
    let sink = g.N.Sink in
    let q = g.Q.Requests in
    puts (q.moves c.args.requests c.args.outside.now c.answer-requests.result.0 c.answer-requests.new.outside) (q.full c.answer-requests.result.0) (marked c.args.arrived.now)
    (sink.outgoing c.args.link.now) (sink.outgoing c.answer-requests.new.link) (sink.outgoing c.conclude-end.new.link)
    c.answer-requests.result.1 c.conclude-end.result c.answer-requests.ensures.spoken c.conclude-end.ensures.concluded
