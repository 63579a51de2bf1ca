use Rattle.std.proofs.Common.{◌≡◌, take, map}
use Rattle.ld_ctx.specs.Stocks.{shared_entries}
use Rattle.ld_tree.specs.formers.entries.Entries.{on_value}
use Rattle.ld_store.specs.Snapshots.{doc_of}
use Rattle.ld_store.proofs.snapshot.shared.Given as goal

abbrev pub invariant-loop-iri : goal.invariant-loop-iri
invariant-loop-iri l = shared_entries l.docs.items ≡ map (on_value doc_of) (take l.iri-index l.placed.0)
