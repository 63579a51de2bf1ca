use Rattle.std.proofs.Common.{◌≡◌, take}
use Rattle.ld_store.proofs.snapshot.copied.Given as goal

abbrev pub invariant-loop-iri : goal.invariant-loop-iri
invariant-loop-iri l = l.entries.items ≡ take l.iri-index l.placed.0
