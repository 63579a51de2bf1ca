-- What the calls within the reading of an envelope answer.
use Rattle.std.specs.Prelude.{◌≡◌, Option, Some}
use Rattle.ld_answer.specs.declared.refusal.EnvelopeRefusal.{EnvelopeRefusal}
use Rattle.ld_answer.specs.declared.refusal.EnvelopeRefusal.TheVariants as refusal

-- the refusal is the fault, or want of memory
abbrev pub IsFault : Option EnvelopeRefusal → EnvelopeRefusal → Type 0
IsFault fault refusal.NoMemory = Unit {0}
IsFault fault e = fault ≡ Some e
