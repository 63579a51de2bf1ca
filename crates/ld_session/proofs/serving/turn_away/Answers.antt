use Rattle.std.proofs.Common.{◌∙◌, ap, subst, Err, None}
use Rattle.ld_edge.specs.Sides.{Outgoing}
use Rattle.ld_head.specs.Outcomes.{reply}
use Rattle.ld_head.specs.declared.outcome.Outcome.TheVariants as outcome
use Rattle.ld_session.specs.Serving.{TurnsAway}
use Rattle.ld_session.proofs.Away.{unsent_none}
use Rattle.ld_session.proofs.serving.turn_away.Goals as goal

pub returns-in_default-clause-turned : goal.returns-in_default-clause-turned
returns-in_default-clause-turned g c = c.lack_memory.ensures.turned c.args.refusal

pub returns-clause-turned : goal.returns-clause-turned
returns-clause-turned g c =
    let sink = g.N.Sink in
    let first = sink.outgoing c.args.link.now in
    let still = unsent_none (reply None (outcome.HistoryFull c.in-HistoryFull.events) c.last_marks.result) c.send.result first (sink.outgoing c.send.new.link) (c.in-Err-NoMemory.is ∙ ap Err c.in-Err-NoMemory.field-0-is) c.send.ensures.unsent in
    subst (λ (s : Outgoing). TurnsAway c.args.refusal s (sink.outgoing c.lack_memory-in-Err-NoMemory.new.link) c.lack_memory-in-Err-NoMemory.result) still (c.lack_memory-in-Err-NoMemory.ensures.turned c.args.refusal)
