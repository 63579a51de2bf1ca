use Rattle.std.proofs.Common.{◌≡◌, drop}
use Rattle.ld_answer.specs.Envelopes.{first_name, is_unknown}
use Rattle.ld_answer.proofs.reading.first_unknown.Given as goal

-- what is left has the first name that the whole has
abbrev pub invariant-loop-name : goal.invariant-loop-name
invariant-loop-name l = first_name (is_unknown l.op) l.entries ≡ first_name (is_unknown l.op) (drop l.name-index l.entries)
