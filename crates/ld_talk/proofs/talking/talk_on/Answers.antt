use Rattle.std.proofs.Common.{◌++◌, sym, subst}
use Rattle.std.specs.Prelude.{Option}
use Rattle.ld_edge.specs.Sides.{Incoming}
use Rattle.ld_fits.specs.Play.{Stage}
use Rattle.ld_head.specs.declared.session_end.SessionEnd.{SessionEnd}
use Rattle.ld_items.specs.Taking.{Standing}
use Rattle.ld_talk.specs.Underway.{GoesOnOrEnds}
use Rattle.ld_talk.proofs.Loops.{HasEnded, Talks, talks_begin, talks_ended, talks_gave_up, talks_next}
use Rattle.ld_talk.proofs.talking.talk_on.Goals as goal

pub loop-init : goal.loop-init
loop-init g c =
    let source = g.N.Source in
    let sink = g.N.Sink in
    let q = g.Q.Requests in
    let r = c.args.requests in
    let o = c.args.outside.now in
    let link = c.args.link.now in
    subst (λ (p : Standing). Talks (q.moves r o r o) (source.incoming link) (source.incoming link) (sink.outgoing link) (sink.outgoing link) p) (sym c.requires)
    (talks_begin (q.moves r o r o) (source.incoming link) (sink.outgoing link) (λ (stage : Stage). q.moves_none r o stage))

pub loop-preserved : goal.loop-preserved
loop-preserved g c =
    let source = g.N.Source in
    let sink = g.N.Sink in
    let q = g.Q.Requests in
    let r = c.args.requests in
    let o = c.args.outside.now in
    let s = c.exchange-next.result.0 in
    let u = c.exchange-next.new.outside in
    let first = c.args.link.now in
    let last = c.exchange-next.new.link in
    let t = c.loop.invariant in
    let did = c.exchange-next.ensures.exchanged in
    let counts = rw c.in_default.is at c.exchange-next.ensures.faults in
    talks_next (q.moves r o c.loop.requests c.loop.outside) (q.moves r o s u) (q.full s) (source.incoming first) (source.incoming c.loop.link) (sink.outgoing first) (sink.outgoing c.loop.link) c.loop.arrivals t
    (source.incoming last) (sink.outgoing last) did.0 did.1 did.2 did.3 c.exchange-next.new.arrivals
    (subst (λ (e : Option SessionEnd). GoesOnOrEnds (q.moves r o s u) (q.full s) (t.came ++ did.0) (t.went ++ did.1) t.heard c.exchange-next.new.arrivals (source.incoming last) e) c.in_default.is (did.4 r o t.came t.went t.heard t.talking))
    counts.0 counts.1

pub returns-in-Some-clause-talked : goal.returns-in-Some-clause-talked
returns-in-Some-clause-talked g c =
    let source = g.N.Source in
    let sink = g.N.Sink in
    let q = g.Q.Requests in
    let r = c.args.requests in
    let o = c.args.outside.now in
    let s = c.exchange-next.result.0 in
    let u = c.exchange-next.new.outside in
    let first = c.args.link.now in
    let last = c.exchange-next.new.link in
    let t = c.loop.invariant in
    let did = c.exchange-next.ensures.exchanged in
    talks_ended (q.moves r o c.loop.requests c.loop.outside) (q.moves r o s u) (q.full s) (source.incoming first) (source.incoming c.loop.link) (sink.outgoing first) (sink.outgoing c.loop.link) c.loop.arrivals t
    (source.incoming last) (sink.outgoing last) did.0 did.1 did.2 did.3 c.in-Some.end
    (subst (λ (e : Option SessionEnd). GoesOnOrEnds (q.moves r o s u) (q.full s) (t.came ++ did.0) (t.went ++ did.1) t.heard c.exchange-next.new.arrivals (source.incoming last) e) c.in-Some.is (did.4 r o t.came t.went t.heard t.talking))

pub returns-clause-talked : goal.returns-clause-talked
returns-clause-talked g c =
    let source = g.N.Source in
    let sink = g.N.Sink in
    let q = g.Q.Requests in
    let r = c.args.requests in
    let o = c.args.outside.now in
    let s = c.loop.requests in
    let u = c.loop.outside in
    let first = c.args.link.now in
    let last = c.lack_memory-end.new.link in
    subst (λ (i : Incoming). HasEnded (q.moves r o s u) (q.full s) (source.incoming first) i (sink.outgoing first) (sink.outgoing last) c.lack_memory-end.result) (sym c.lack_memory-end.ensures.incoming)
    (talks_gave_up (q.moves r o s u) (q.moves s u s u) (q.full s) (λ (stage : Stage). q.moves_none s u stage) (λ (x y z : Stage) h k. q.moves_more r s s o u u x y z h k)
    (source.incoming first) (source.incoming c.loop.link) (sink.outgoing first) (sink.outgoing c.loop.link) (sink.outgoing last) c.loop.arrivals c.loop.invariant c.lack_memory-end.result c.lack_memory-end.ensures.gave_up)
