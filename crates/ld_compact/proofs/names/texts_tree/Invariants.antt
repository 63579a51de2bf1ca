use Rattle.std.proofs.Common.{◌≡◌, ◌++◌, map, drop}
use Rattle.ld_rec.specs.Kinds.{text_tree}
use Rattle.ld_compact.proofs.names.texts_tree.Given as goal

abbrev pub invariant-loop-text : goal.invariant-loop-text
invariant-loop-text l = l.items.items ++ map text_tree (drop l.text-index l.texts) ≡ map text_tree l.texts
