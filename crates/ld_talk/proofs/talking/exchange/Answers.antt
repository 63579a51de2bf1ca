use Rattle.std.proofs.Common.{◌++◌, sym, subst}
use Rattle.ld_edge.specs.Passing.{Comes}
use Rattle.ld_edge.proofs.Known.{goes_then}
use Rattle.ld_edge.specs.Sides.{Incoming}
use Rattle.ld_fits.specs.Play.{Stage}
use Rattle.ld_head.specs.declared.session_end.SessionEnd.{SessionEnd}
use Rattle.ld_talk.specs.Talking.{Talked, no_memory_text}
use Rattle.ld_talk.specs.Underway.{GoesOnOrEnds}
use Rattle.ld_talk.proofs.Puts.{goes_on_put}
use Rattle.ld_talk.proofs.Talks.{talked_out_of_memory, talked_to_end, talked_to_fault, talked_to_interim}
use Rattle.ld_talk.proofs.talking.exchange.Goals as goal
use Rattle.std.specs.Prelude.{take}

pub returns-in-Item-clause-exchanged : goal.returns-in-Item-clause-exchanged
returns-in-Item-clause-exchanged g c =
    let source = g.N.Source in
    let sink = g.N.Sink in
    let q = g.Q.Requests in
    let took = c.in-Item.ensures.took in
    let put = c.speak.ensures.put in
    let here = source.incoming c.next.new.link in
    let r = c.args.requests in
    let s = c.speak.result.0 in
    let o = c.args.outside.now in
    let u = c.speak.new.outside in (
      took.0,
      took.1 ++ put.0,
      subst (λ (i : Incoming). Comes (source.incoming c.args.link.now) i took.0) (sym c.speak.ensures.incoming) took.2,
      goes_then (sink.outgoing c.args.link.now) (sink.outgoing c.next.new.link) (sink.outgoing c.speak.new.link) took.1 put.0 took.3 put.1,
      λ start from before wrote heard talking.
          subst (λ (i : Incoming). GoesOnOrEnds (q.moves start from s u) (q.full s) (before ++ took.0) (wrote ++ (took.1 ++ put.0)) heard c.next.new.self i c.speak.result.1) (sym c.speak.ensures.incoming)
          (goes_on_put (q.moves start from r o) (q.moves r o s u) (q.moves start from s u) (q.full s) (λ (x y z : Stage) h k. q.moves_more start r s from o u x y z h k) before wrote heard c.args.arrivals.now talking took.0 here
          c.in-Item.arrived took.1 c.next.new.self took.4 put.0 c.speak.result.1 put.2),
    )

pub returns-in-Ended-clause-exchanged : goal.returns-in-Ended-clause-exchanged
returns-in-Ended-clause-exchanged g c =
    let source = g.N.Source in
    let q = g.Q.Requests in
    let took = c.in-Ended.ensures.took in
    let here = source.incoming c.next.new.link in
    let r = c.args.requests in
    let o = c.args.outside.now in (
      took.0,
      took.1,
      took.2,
      took.3,
      λ start from before wrote heard talking.
          subst (λ (e : SessionEnd). Talked (q.moves start from r o) (q.full r) (before ++ took.0) (wrote ++ took.1) here e) (sym c.end_of.ensures)
          (talked_to_end (q.moves start from r o) (q.moves r o r o) (q.moves start from r o) (q.full r) (λ (x y z : Stage) h k. q.moves_more start r r from o o x y z h k) before wrote heard c.args.arrivals.now talking took.0 here
          (λ (stage : Stage). q.moves_none r o stage) took.1 c.in-Ended.ending took.4.0 took.4.1 took.4.2),
    )

pub returns-in-ReadFault-clause-exchanged : goal.returns-in-ReadFault-clause-exchanged
returns-in-ReadFault-clause-exchanged g c =
    let source = g.N.Source in
    let q = g.Q.Requests in
    let took = c.in-ReadFault.ensures.took in
    let here = source.incoming c.next.new.link in
    let r = c.args.requests in
    let o = c.args.outside.now in (
      took.0,
      took.1,
      took.2,
      took.3,
      λ start from before wrote heard talking.
          talked_to_fault (q.moves start from r o) (q.moves r o r o) (q.moves start from r o) (q.full r) (λ (x y z : Stage) h k. q.moves_more start r r from o o x y z h k) before wrote heard c.args.arrivals.now talking took.0 here
          (λ (stage : Stage). q.moves_none r o stage) took.1 c.in-ReadFault.field-0 took.4.0 took.4.1,
    )

pub returns-in-WriteFault-clause-exchanged : goal.returns-in-WriteFault-clause-exchanged
returns-in-WriteFault-clause-exchanged g c =
    let source = g.N.Source in
    let q = g.Q.Requests in
    let took = c.in-WriteFault.ensures.took in
    let here = source.incoming c.next.new.link in
    let r = c.args.requests in
    let o = c.args.outside.now in (
      took.0,
      took.1,
      took.2,
      took.3,
      λ start from before wrote heard talking.
          talked_to_interim (q.moves start from r o) (q.moves r o r o) (q.moves start from r o) (q.full r) (λ (x y z : Stage) h k. q.moves_more start r r from o o x y z h k) before wrote heard c.args.arrivals.now talking took.0 here
          (λ (stage : Stage). q.moves_none r o stage) took.1 took.4.1.0 took.4.0 took.4.1.2,
    )

pub returns-in-NoMemory-clause-exchanged : goal.returns-in-NoMemory-clause-exchanged
returns-in-NoMemory-clause-exchanged g c =
    let source = g.N.Source in
    let sink = g.N.Sink in
    let q = g.Q.Requests in
    let took = c.in-NoMemory.ensures.took in
    let gave = c.lack_memory-end.ensures.gave_up in
    let here = source.incoming c.lack_memory-end.new.link in
    let r = c.args.requests in
    let o = c.args.outside.now in (
      took.0,
      took.1 ++ take gave.n no_memory_text,
      subst (λ (i : Incoming). Comes (source.incoming c.args.link.now) i took.0) (sym c.lack_memory-end.ensures.incoming) took.2,
      goes_then (sink.outgoing c.args.link.now) (sink.outgoing c.next.new.link) (sink.outgoing c.lack_memory-end.new.link) took.1 (take gave.n no_memory_text) took.3 gave.goes,
      λ start from before wrote heard talking.
          subst (λ (e : SessionEnd). Talked (q.moves start from r o) (q.full r) (before ++ took.0) (wrote ++ (took.1 ++ take gave.n no_memory_text)) here e) (sym gave.is)
          (talked_out_of_memory (q.moves start from r o) (q.moves r o r o) (q.moves start from r o) (q.full r) (λ (x y z : Stage) h k. q.moves_more start r r from o o x y z h k) before wrote heard c.args.arrivals.now talking took.0 here
          (λ (stage : Stage). q.moves_none r o stage) took.1 gave.n took.4),
    )
