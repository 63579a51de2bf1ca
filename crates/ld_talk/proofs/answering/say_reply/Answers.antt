use Rattle.std.proofs.Common.{sym, subst}
use Rattle.ld_talk.specs.Talking.{IsSaidOf}
use Rattle.ld_talk.specs.declared.requests.Replied.{Replied}
use Rattle.ld_talk.proofs.answering.say_reply.Goals as goal

pub returns-in-Answered-clause-said : goal.returns-in-Answered-clause-said
returns-in-Answered-clause-said g c =
    let sink = g.N.Sink in
    subst (λ (r : Replied). IsSaidOf r c.args.marks (sink.outgoing c.args.link.now) (sink.outgoing c.say.new.link) c.say.result) (sym c.in-Answered.is) c.say.ensures.said
