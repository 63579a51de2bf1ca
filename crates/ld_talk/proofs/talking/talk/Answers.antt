use Rattle.std.proofs.Common.{sym, subst}
use Rattle.ld_edge.specs.Sides.{Incoming}
use Rattle.ld_fits.specs.Play.{Stage}
use Rattle.ld_items.specs.Taking.{start}
use Rattle.ld_talk.proofs.Loops.{HasEnded, talks_begin, talks_gave_up}
use Rattle.ld_talk.proofs.talking.talk.Goals as goal

pub returns-in-Err-clause-talked : goal.returns-in-Err-clause-talked
returns-in-Err-clause-talked g c =
    let source = g.N.Source in
    let sink = g.N.Sink in
    let q = g.Q.Requests in
    let r = c.args.requests in
    let o = c.args.outside.now in
    let first = c.args.link.now in
    let last = c.lack_memory-end.new.link in
    subst (λ (i : Incoming). HasEnded (q.moves r o r o) (q.full r) (source.incoming first) i (sink.outgoing first) (sink.outgoing last) c.lack_memory-end.result) (sym c.lack_memory-end.ensures.incoming)
    (talks_gave_up (q.moves r o r o) (q.moves r o r o) (q.full r) (λ (stage : Stage). q.moves_none r o stage) (λ (x y z : Stage) h k. q.moves_more r r r o o o x y z h k)
    (source.incoming first) (source.incoming first) (sink.outgoing first) (sink.outgoing first) (sink.outgoing last) start
    (talks_begin (q.moves r o r o) (source.incoming first) (sink.outgoing first) (λ (stage : Stage). q.moves_none r o stage)) c.lack_memory-end.result c.lack_memory-end.ensures.gave_up)
