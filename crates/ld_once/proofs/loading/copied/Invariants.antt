use Rattle.std.proofs.Common.{◌≡◌, take}
use Rattle.ld_ctx.specs.Stocks.{shared_entries}
use Rattle.ld_once.proofs.loading.copied.Given as goal

abbrev pub invariant-loop-iri : goal.invariant-loop-iri
invariant-loop-iri l = shared_entries l.copies.items ≡ shared_entries (take l.iri-index l.documents)
