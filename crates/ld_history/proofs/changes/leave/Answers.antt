use Rattle.ld_history.proofs.Ordered.{order_out}
use Rattle.ld_history.proofs.Freed.{free_out}
use Rattle.ld_history.proofs.changes.leave.Goals as goal

pub returns-clause-order : goal.returns-clause-order
returns-clause-order c =
    order_out c.args.stored.now.entries c.args.order.now.published.entries c.requires c.args.iri.now c.remove.new.self.entries c.unlist.new.self.published.entries c.version_of-version.result c.remove.ensures.entries c.unlist.ensures.published c.version_of-version.ensures

pub returns-clause-free : goal.returns-clause-free
returns-clause-free c =
    free_out c.args.stored.now.entries c.args.order.now.published.entries c.requires c.version_of-version.result c.unlist.new.self.published.entries c.args.order.now.free.items c.unlist.new.self.free.items c.unlist.ensures.published c.unlist.ensures.free
