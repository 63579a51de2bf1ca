use Rattle.std.proofs.Common.{◌≡◌, ◌++◌, drop}
use Rattle.ld_compact.proofs.types.copied.Given as goal

abbrev pub invariant-loop-text : goal.invariant-loop-text
invariant-loop-text l = l.texts.items ++ drop l.text-index l.types ≡ l.types
