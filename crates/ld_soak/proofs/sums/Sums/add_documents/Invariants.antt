use Rattle.std.proofs.Common.{◌≡◌, ◌≤◌, ◌-◌}
use Rattle.ld_soak.specs.Soaks.{AreLengths}
use Rattle.ld_soak.specs.Steps.{AreBounded}
use Rattle.ld_soak.proofs.sums.Sums.add_documents.Given as goal

abbrev pub invariant-loop-self : goal.invariant-loop-self
invariant-loop-self l = record { within : l.self.documents ≤ l.count; loads : l.self.loads ≡ l.initial.self.loads; lengths : AreLengths l.stock l.self; bounded : AreBounded l.self }

abbrev pub decreases-loop-self : goal.decreases-loop-self
decreases-loop-self l = l.count - l.self.documents
