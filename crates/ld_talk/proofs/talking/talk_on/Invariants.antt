use Rattle.ld_talk.proofs.Loops.{Talks}
use Rattle.ld_talk.proofs.talking.talk_on.Given as goal

-- the items so far were answered
abbrev pub invariant-loop : goal.invariant-loop
invariant-loop g l =
    Talks (g.Q.Requests.moves l.initial.requests l.initial.outside l.requests l.outside) (g.N.Source.incoming l.initial.link) (g.N.Source.incoming l.link)
    (g.N.Sink.outgoing l.initial.link) (g.N.Sink.outgoing l.link) l.arrivals
