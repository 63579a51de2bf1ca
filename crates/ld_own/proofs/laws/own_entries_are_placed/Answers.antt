use Rattle.ld_own.proofs.Growing.{grown, listed}
use Rattle.ld_own.proofs.laws.own_entries_are_placed.Goals as goal

pub returns-clause-own : goal.returns-clause-own
returns-clause-own c store session entries = listed store session entries

pub returns-clause-grow : goal.returns-clause-grow
returns-clause-grow c store session front back = grown store session front back
