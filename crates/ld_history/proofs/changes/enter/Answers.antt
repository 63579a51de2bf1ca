use Rattle.std.proofs.Common.{◌∙◌, ap, not, ◌&&◌, Some}
use Rattle.ld_history.specs.Order.{has, is_version}
use Rattle.ld_history.proofs.Ordered.{order_in, order_undone}
use Rattle.ld_history.proofs.Freed.{free_in, free_undone}
use Rattle.ld_history.proofs.changes.enter.Goals as goal

pub returns-clause-order : goal.returns-clause-order
returns-clause-order c =
    let stored = c.args.stored.now.entries in
    let order = c.args.order.now.published.entries in
    order_in stored order c.requires.order c.args.iri.now c.args.entering c.requires.fresh c.stand.new.stored.entries c.list.new.self.published.entries c.unlist-2.new.self.published.entries c.version_of-former.result
    c.in_default.ensures.stored c.in_ok-list.ensures.ok c.unlist-2.ensures.published c.version_of-former.ensures

pub returns-clause-free : goal.returns-clause-free
returns-clause-free c =
    free_in c.args.stored.now.entries c.args.order.now.published.entries c.requires.order c.args.iri.now c.args.entering.version c.requires.fresh c.version_of-former.result c.list.new.self.published.entries c.unlist-2.new.self.published.entries
    c.args.order.now.free.items c.unlist-2.new.self.free.items c.in_ok-list.ensures.ok c.unlist-2.ensures.published (λ q. c.unlist-2.ensures.free q ∙ ap (λ l. not (is_version c.version_of-former.result q) && has l q) c.list.ensures.free)

pub returns-in-Err-clause-order : goal.returns-in-Err-clause-order
returns-in-Err-clause-order c =
    order_undone c.args.stored.now.entries c.args.order.now.published.entries c.requires.order c.args.iri.now c.args.entering c.requires.fresh c.stand.new.stored.entries c.list.new.self.published.entries c.unlist.new.self.published.entries
    c.in-Err.ensures.not_stored c.in_ok-list.ensures.ok c.unlist.ensures.published

pub returns-in-Err-clause-free : goal.returns-in-Err-clause-free
returns-in-Err-clause-free c =
    free_undone c.args.stored.now.entries c.args.order.now.published.entries c.requires.order c.args.iri.now c.args.entering.version c.requires.fresh c.list.new.self.published.entries c.unlist.new.self.published.entries
    c.args.order.now.free.items c.unlist.new.self.free.items c.in_ok-list.ensures.ok c.unlist.ensures.published (λ q. c.unlist.ensures.free q ∙ ap (λ l. not (is_version (Some c.args.entering.version) q) && has l q) c.list.ensures.free)
