use Rattle.std.proofs.Common.{List, ℕ, length, refl, sym, subst, arith}
use Rattle.std.proofs.Math.Seq.{take-length}
use Rattle.ld_edge.specs.Passing.{Goes}
use Rattle.ld_talk.specs.Talking.{no_memory_text}
use Rattle.ld_talk.proofs.concluding.lack_memory.Goals as goal

pub returns-in-Ok-clause-gave_up : goal.returns-in-Ok-clause-gave_up
returns-in-Ok-clause-gave_up g c =
    let sink = g.N.Sink in record {
      n = length no_memory_text;
      goes = subst (λ (l : List ℕ). Goes (sink.outgoing c.args.link.now) (sink.outgoing c.give_up.new.link) l) (sym (take-length no_memory_text)) c.in-Ok.ensures.sent;
      count = omega (arith, c.in-Ok.ensures.keeps_count);
      is = refl;
    }
