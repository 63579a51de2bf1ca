use Rattle.std.proofs.Common.{◌≡◌, ℕ, List, ◌++◌, [], ap, subst}
use Rattle.ld_edge.proofs.Known.{comes_then, goes_none}
use Rattle.ld_head.specs.Dialogues.{Whole, front, Opens, Stops}
use Rattle.ld_items.proofs.Arriving.{same_sink_before, silent, takes_grouped}
use Rattle.ld_items.specs.Taking.{Takes}
use Rattle.ld_items.proofs.arrivals.Arrivals.next.Goals as goal

pub returns-in-Whole-clause-took : goal.returns-in-Whole-clause-took
returns-in-Whole-clause-took g c =
    let head = c.in-Whole.ensures.heading in
    let rest = c.after_head.ensures.took in
    let begins : (more : List ℕ) → front ((c.args.self.now.pending ++ head.0) ++ more) ≡ Whole head.2.0 (c.read_head.new.pending ++ more) =
    subst (λ (p : List ℕ). (more : List ℕ) → front ((p ++ head.0) ++ more) ≡ Whole head.2.0 (c.read_head.new.pending ++ more)) (ap (λ s. s.pending) c.self.view_is) head.2.2 in (
      head.0 ++ rest.0,
      rest.1,
      comes_then (g.N.Source.incoming c.args.link.now) (g.N.Source.incoming c.read_head.new.link) (g.N.Source.incoming c.after_head.new.link) head.0 rest.0 head.1 rest.2,
      same_sink_before (g.N.Sink.outgoing c.args.link.now) (g.N.Sink.outgoing c.read_head.new.link) (g.N.Sink.outgoing c.after_head.new.link) rest.1 c.read_head.ensures.outgoing rest.3,
      takes_grouped c.args.self.now.items c.args.self.now.pending head.0 rest.0 rest.1 c.after_head.new.self (g.N.Source.incoming c.after_head.new.link) c.after_head.result
          (subst (λ (n : ℕ). Takes n ((c.args.self.now.pending ++ head.0) ++ rest.0) rest.1 c.after_head.new.self (g.N.Source.incoming c.after_head.new.link) c.after_head.result) (ap (λ s. s.items) c.self.view_is)
          (rest.4 (c.args.self.now.pending ++ head.0) head.2.0 head.2.1 begins)),
    )

pub returns-in-Ended-clause-took : goal.returns-in-Ended-clause-took
returns-in-Ended-clause-took g c =
    let head = c.in-Ended.ensures.heading in (
      head.0,
      [],
      head.1,
      goes_none (g.N.Sink.outgoing c.args.link.now) (g.N.Sink.outgoing c.read_head.new.link) (ap (λ s. s.held) c.read_head.ensures.outgoing),
      (
        subst (λ (p : List ℕ). Opens c.args.self.now.items (p ++ head.0) (Stops c.in-Ended.ending)) (ap (λ s. s.pending) c.self.view_is) (head.2.0 c.args.self.now.items),
        silent c.in-Ended.ending head.2.1,
        c.in-Ended.ensures.end,
      ),
    )

pub returns-in-Fault-clause-took : goal.returns-in-Fault-clause-took
returns-in-Fault-clause-took g c =
    let head = c.in-Fault.ensures.heading in (
      head.0,
      [],
      head.1,
      goes_none (g.N.Sink.outgoing c.args.link.now) (g.N.Sink.outgoing c.read_head.new.link) (ap (λ s. s.held) c.read_head.ensures.outgoing),
      (
        subst (λ (p : List ℕ). Opens c.args.self.now.items (p ++ head.0) (Stops c.in-Fault.ending)) (ap (λ s. s.pending) c.self.view_is) (head.2.0 c.args.self.now.items),
        silent c.in-Fault.ending head.2.1,
      ),
    )
