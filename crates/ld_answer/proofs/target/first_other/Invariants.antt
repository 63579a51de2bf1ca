use Rattle.std.proofs.Common.{◌≡◌, drop}
use Rattle.ld_answer.specs.Envelopes.{first_name}
use Rattle.ld_answer.specs.Targets.{is_other}
use Rattle.ld_answer.proofs.target.first_other.Given as goal

-- what is left has the first name that the whole has
abbrev pub invariant-loop-name : goal.invariant-loop-name
invariant-loop-name l = first_name is_other l.entries ≡ first_name is_other (drop l.name-index l.entries)
