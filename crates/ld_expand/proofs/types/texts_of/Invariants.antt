use Rattle.std.proofs.Common.{◌≡◌, ◌++◌, drop}
use Rattle.std.specs.Prelude.{filter_map}
use Rattle.ld_rec.specs.Words.{text_of}
use Rattle.ld_expand.proofs.types.texts_of.Given as goal

abbrev pub invariant-loop-item : goal.invariant-loop-item
invariant-loop-item l = l.texts.items ++ filter_map text_of (drop l.item-index l.items) ≡ filter_map text_of l.items
