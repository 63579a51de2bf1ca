use Rattle.std.proofs.Common.{◌≡◌, ◌+◌, ◌++◌, [], ap, take, rules}
use Rattle.ld_edge.proofs.Known.{comes_none}
use Rattle.ld_head.specs.Dialogues.{marks_of}
use Rattle.ld_head.specs.Replies.{interim_text, text_if}
use Rattle.ld_items.proofs.Arriving.{same_sink, same_source, takes_item, takes_no_memory, takes_write_fault}
use Rattle.ld_items.proofs.arrivals.Arrivals.after_head.Goals as goal

pub returns-in-Err-clause-took : goal.returns-in-Err-clause-took
returns-in-Err-clause-took g c =
    let part = c.in-Err.ensures.part in
    let same = c.ask_for_body.ensures.incoming in (
      [],
      take part.1.0 interim_text,
      comes_none (g.N.Source.incoming c.args.link.now) (g.N.Source.incoming c.ask_for_body.new.link) (ap (λ s. s.given) same) (ap (λ s. s.left) same),
      part.1.2,
      λ bytes block says begins. takes_write_fault _ bytes block _ c.args.head.now says begins c.args.self.now (g.N.Source.incoming c.args.link.now) part.1.0 part.1.1 part.0,
    )

pub returns-in-Whole-clause-took : goal.returns-in-Whole-clause-took
returns-in-Whole-clause-took g c =
    let body = c.in-Whole.ensures.body in
    let is : c.args.self.now.pending ++ body.0 ≡ c.in-Whole.body ++ c.give-in-Whole.new.self.pending = search rules in
    let count : c.give-in-Whole.new.self.items ≡ c.args.self.now.items + 1 = search rules in
    let marks : c.marks.result ≡ marks_of c.args.self.now.items c.args.head.now = search rules in (
      body.0,
      text_if c.args.head.now.interim interim_text,
      same_source (g.N.Source.incoming c.args.link.now) (g.N.Source.incoming c.ask_for_body.new.link) (g.N.Source.incoming c.read_body.new.link) body.0 c.ask_for_body.ensures.incoming body.1,
      same_sink (g.N.Sink.outgoing c.args.link.now) (g.N.Sink.outgoing c.ask_for_body.new.link) (g.N.Sink.outgoing c.read_body.new.link) _ c.read_body.ensures.outgoing c.in-Ok.ensures.all,
      λ bytes block says begins.
          takes_item _ bytes block _ c.args.head.now says begins body.0 c.in-Whole.body c.give-in-Whole.new.self (g.N.Source.incoming c.read_body.new.link) c.asked_of.result c.marks.result c.give-in-Whole.result
          body.2.0 is count c.asked_of.ensures marks c.give-in-Whole.ensures.given,
    )

pub returns-in-NoMemory-clause-took : goal.returns-in-NoMemory-clause-took
returns-in-NoMemory-clause-took g c =
    let body = c.in-NoMemory.ensures.body in (
      body.0,
      text_if c.args.head.now.interim interim_text,
      same_source (g.N.Source.incoming c.args.link.now) (g.N.Source.incoming c.ask_for_body.new.link) (g.N.Source.incoming c.read_body.new.link) body.0 c.ask_for_body.ensures.incoming body.1,
      same_sink (g.N.Sink.outgoing c.args.link.now) (g.N.Sink.outgoing c.ask_for_body.new.link) (g.N.Sink.outgoing c.read_body.new.link) _ c.read_body.ensures.outgoing c.in-Ok.ensures.all,
      λ bytes block says begins. takes_no_memory c.args.self.now.items bytes block c.args.self.now.pending c.args.head.now says begins body.0 c.args.self.now (g.N.Source.incoming c.args.link.now),
    )
