use Rattle.std.proofs.Common.{◌≡◌, drop}
use Rattle.ld_answer.specs.Envelopes.{first_name, is_of_wrong_kind}
use Rattle.ld_answer.proofs.reading.first_wrong.Given as goal

-- what is left has the first name that the whole has
abbrev pub invariant-loop-name : goal.invariant-loop-name
invariant-loop-name l = first_name is_of_wrong_kind l.entries ≡ first_name is_of_wrong_kind (drop l.name-index l.entries)
