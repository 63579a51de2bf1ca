use Rattle.std.proofs.Common.{◌≡◌, drop}
use Rattle.std.specs.Prelude.{fold}
use Rattle.ld_rec.specs.Processing.{with_entry, merged}
use Rattle.ld_context.proofs.import.merged.Given as goal

abbrev pub invariant-loop-name : goal.invariant-loop-name
invariant-loop-name l = fold with_entry l.map (drop l.name-index l.name-items) ≡ merged l.imported l.entries
