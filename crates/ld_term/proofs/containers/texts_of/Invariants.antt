use Rattle.std.proofs.Common.{◌≡◌, Some, take}
use Rattle.ld_rec.specs.Terms.{texts_of}
use Rattle.ld_term.proofs.containers.texts_of.Given as goal

abbrev pub invariant-loop-item : goal.invariant-loop-item
invariant-loop-item l = texts_of (take l.item-index l.item-items) ≡ Some l.texts
