use Rattle.std.proofs.Common.{◌+◌, ◌≤◌, ◌++◌, ℕ, List, take}
use Rattle.ld_tree_read.specs.Digits.{Stands}
use Rattle.ld_tree_read.proofs.decimal.with_digits.Given as goal

abbrev pub invariant-loop-byte : goal.invariant-loop-byte
invariant-loop-byte l = record {
  stands : (ds : List ℕ) → Stands l.fn.digits.significant l.fn.digits.zeros ds → Stands l.all.significant l.all.zeros (ds ++ take l.byte-index l.more);
  few : l.all.zeros ≤ l.fn.digits.zeros + l.byte-index;
}
