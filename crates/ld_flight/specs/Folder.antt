-- Loaders over a folder.
use Rattle.std.specs.Prelude.{List}
use Rattle.ld_edge.specs.Faults.{Count}
use Rattle.ld_flight.specs.declared.given.Given.{Given}

-- the answers given, and how many loads failed
pub record Counting : Type 0 where
  pub given : List Given
  pub faults : Count
