-- Two texts that may be there, by what they hold.
use Rattle.std.specs.Prelude.{ℕ, List, Option, Some, None}
use Rattle.std.specs.Borrow.{Bor}

abbrev pub texts : Option (Bor (List ℕ) × Bor (List ℕ)) → Option (List ℕ × List ℕ)
texts (Some p) = Some (p.0.now, p.1.now)
texts None = None
