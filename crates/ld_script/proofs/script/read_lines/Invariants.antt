use Rattle.std.proofs.Common.{◌≡◌, ◌++◌, ◌+◌, length}
use Rattle.ld_script.specs.Scripts.{text_of, AreGood}
use Rattle.ld_script.proofs.script.read_lines.Given as goal

abbrev pub invariant-loop-rest : goal.invariant-loop-rest
invariant-loop-rest l = record {
  good : AreGood l.lines.items;
  split : l.text ≡ text_of l.lines.items ++ l.rest;
  counted : l.number ≡ l.first + length l.lines.items;
}

abbrev pub decreases-loop-rest : goal.decreases-loop-rest
decreases-loop-rest l = length l.rest
