-- The numbers of the program's exit status.
use Rattle.std.specs.Prelude.{ℕ}
use Rattle.ld_edge.specs.declared.status.Status.{Status}
use Rattle.ld_edge.specs.declared.status.Status.TheVariants.{Done, Refused, Usage, ReadFault, WriteFault, LoadFault, TooMany, NoMemory, InputTooLong}

abbrev pub code_of : Status → ℕ
code_of Done = 0
code_of Refused = 1
code_of Usage = 2
code_of ReadFault = 3
code_of WriteFault = 4
code_of LoadFault = 5
code_of TooMany = 6
code_of NoMemory = 7
code_of InputTooLong = 8
