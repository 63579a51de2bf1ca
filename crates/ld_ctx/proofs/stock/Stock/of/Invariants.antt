use Rattle.std.proofs.Common.{◌≡◌, ◌++◌}
use Rattle.ld_ctx.specs.Stocks.{shared_entries}
use Rattle.ld_ctx.proofs.stock.Stock.of.Given as goal

abbrev pub invariant-loop-iri : goal.invariant-loop-iri
invariant-loop-iri l = shared_entries l.shared.items ++ l.iri-iterator.rest.items ≡ l.fn.entries.items
