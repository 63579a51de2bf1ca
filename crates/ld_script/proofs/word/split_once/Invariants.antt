use Rattle.std.proofs.Common.{◌≡◌, take, true}
use Rattle.ld_script.specs.Reading.{lacks}
use Rattle.ld_script.proofs.word.split_once.Given as goal

abbrev pub invariant-loop-place : goal.invariant-loop-place
invariant-loop-place l = lacks l.byte (take l.place l.text) ≡ true
