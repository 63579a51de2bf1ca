-- Why nothing was loaded.
use Rattle.std.specs.Prelude.{◌≡◌, ℕ}
use Rattle.ld_edge.specs.Faults.{Rose}
use Rattle.ld_flight.specs.declared.loader.Why.{Why}
use Rattle.ld_flight.specs.declared.loader.Why.TheVariants.{Fault, NoMemory}

-- the count of failures rose where the loader failed, and stayed where memory was wanting
abbrev pub IsCountedAs : Why → (before after : ℕ) → Type 0
IsCountedAs Fault before after = Rose before after
IsCountedAs NoMemory before after = after ≡ before
