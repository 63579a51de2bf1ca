use Rattle.std.proofs.Common.{[]}
use Rattle.ld_history.proofs.Freed.{free_take}
use Rattle.ld_history.proofs.changes.end_revision.Goals as goal

pub returns-clause-free : goal.returns-clause-free
returns-clause-free c =
    c.refresh.ensures.free [] (free_take c.args.iri.now c.args.order.now.published.entries c.args.order.now.free.items c.args.holders.now.entries c.args.revisions.now.entries c.remove.new.self.entries c.remove.ensures.entries c.requires.free)
