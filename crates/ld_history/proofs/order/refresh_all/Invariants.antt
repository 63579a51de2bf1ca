use Rattle.std.proofs.Common.{◌≡◌, drop}
use Rattle.ld_history.specs.Order.{IsFree}
use Rattle.ld_history.proofs.order.refresh_all.Given as goal

abbrev pub invariant-loop-iri : goal.invariant-loop-iri
invariant-loop-iri l =
    record {
      published : l.order.published.entries ≡ l.fn.order.published.entries;
      free : IsFree (drop l.iri-index l.iris) l.order.published.entries l.order.free.items l.holders.entries l.revisions.entries;
    }
