use Rattle.std.proofs.Common.{List, ℕ, length, sym, subst, arith}
use Rattle.std.proofs.Math.Seq.{take-length}
use Rattle.ld_edge.specs.Passing.{Goes}
use Rattle.ld_talk.specs.Talking.{no_memory_text}
use Rattle.ld_session.proofs.serving.lack_memory.Goals as goal

pub returns-in-Ok-clause-turned : goal.returns-in-Ok-clause-turned
returns-in-Ok-clause-turned g c refusal =
    let sink = g.N.Sink in (
      length no_memory_text,
      subst (λ (l : List ℕ). Goes (sink.outgoing c.args.link.now) (sink.outgoing c.give_up.new.link) l) (sym (take-length no_memory_text)) c.in-Ok.ensures.sent,
      omega (arith, c.in-Ok.ensures.keeps_count),
    )
