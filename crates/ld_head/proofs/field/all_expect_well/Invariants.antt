use Rattle.std.proofs.Common.{◌≡◌, map, length}
use Rattle.std.specs.List.{list_all}
use Rattle.httparse.specs.Borrowed.{header_parts}
use Rattle.ld_head.specs.Heads.{expects_well}
use Rattle.ld_head.proofs.field.all_expect_well.Given as goal

abbrev pub invariant-loop-left : goal.invariant-loop-left
invariant-loop-left l = list_all expects_well (map header_parts l.left) ≡ list_all expects_well (map header_parts l.fields)

abbrev pub decreases-loop-left : goal.decreases-loop-left
decreases-loop-left l = length l.left
