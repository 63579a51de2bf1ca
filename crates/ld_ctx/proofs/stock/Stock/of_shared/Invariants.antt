use Rattle.std.proofs.Common.{◌≡◌}
use Rattle.std.specs.Prelude.{fold}
use Rattle.ld_ctx.specs.Shares.{values_of_shared}
use Rattle.ld_ctx.specs.Stocks.{with_document, stock_of, shared_entries}
use Rattle.ld_ctx.proofs.stock.Stock.of_shared.Given as goal

abbrev pub invariant-loop-iri : goal.invariant-loop-iri
invariant-loop-iri l = fold with_document (values_of_shared l.docs) (shared_entries l.iri-iterator.rest.items) ≡ stock_of (shared_entries l.fn.entries.items)
