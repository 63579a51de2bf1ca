-- What is told of a call, but at want of memory.
use Rattle.std.specs.Prelude.{Result, Err}
use Rattle.ld_rec.specs.declared.stop.Stop.{Stop}
use Rattle.ld_rec.specs.declared.stop.Stop.TheVariants as stop

abbrev pub UnlessNoMemory : {A : Type 0} → Result A Stop → Type 0 → Type 0
UnlessNoMemory (Err stop.NoMemory) fact = Unit {0}
UnlessNoMemory _ fact = fact
