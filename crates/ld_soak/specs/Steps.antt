-- The sums while they grow.
use Rattle.std.specs.Prelude.{ℕ, ◌*◌, ◌≤◌, ◌^◌}
use Rattle.ld_soak.specs.declared.sums.Sums.{Sums}

-- each is as small as so many texts in memory make it
abbrev pub AreBounded : Sums → Type 0
AreBounded sums = (sums.expanded ≤ sums.documents * 2 ^ 64) × (sums.compacted ≤ sums.documents * 2 ^ 64) × (sums.flattened ≤ sums.documents * 2 ^ 64)
