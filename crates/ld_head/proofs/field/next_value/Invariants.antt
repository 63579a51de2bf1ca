use Rattle.std.proofs.Common.{◌≡◌, ◌≤◌, map, length}
use Rattle.httparse.specs.Borrowed.{header_parts}
use Rattle.http1.specs.Fields.{values_named}
use Rattle.ld_head.proofs.field.next_value.Given as goal

abbrev pub invariant-loop-left : goal.invariant-loop-left
invariant-loop-left l =
    (values_named l.name (map header_parts l.left) ≡ values_named l.name (map header_parts l.fields))
    × (length l.left ≤ length l.fields)

abbrev pub decreases-loop-left : goal.decreases-loop-left
decreases-loop-left l = length l.left
