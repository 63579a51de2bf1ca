use Rattle.std.proofs.Common.{◌≡◌, ◌*◌, ◌^◌, ◌<◌}
use Rattle.ld_tree_read.proofs.decimal.shifted.Given as goal

abbrev pub invariant-loop : goal.invariant-loop
invariant-loop l = record { is : l.shifted ≡ l.value * 10 ^ l.counter; fits : l.shifted < 2 ^ 64 }
