use Rattle.std.proofs.Common.{◌≡◌, map, take}
use Rattle.httparse.specs.Borrowed.{header_parts}
use Rattle.http1.specs.Fields.{known_fields}
use Rattle.ld_head.proofs.field.lists_close.Given as goal

abbrev pub invariant-loop-field : goal.invariant-loop-field
invariant-loop-field l = l.known ≡ known_fields (map header_parts (take l.field-index l.fields))
