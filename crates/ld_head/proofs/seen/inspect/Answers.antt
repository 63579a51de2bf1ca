use Rattle.std.proofs.Common.{◌≡◌, rules, arith, length, inl, inr, subst, map}
use Rattle.httparse.specs.Borrowed.{header_parts}
use Rattle.httparse.specs.Spans.{RequestOverflows}
use Rattle.ld_head.specs.Heads.{Parts, parts, no_head}
use Rattle.ld_head.specs.Reading.{verdict_of}
use Rattle.ld_head.proofs.Parsed.{partial_is_none, error_is_none, other_is_none, read_whole, parts_are, says}
use Rattle.ld_head.proofs.seen.inspect.Goals.{then-len-block-via-then-len-block, then-len-block-via-else-len-block+then-request-gt-MOST_FIELDS}
use Rattle.ld_head.proofs.seen.inspect.Goals as goal

pub returns-in-Ok-Partial : goal.returns-in-Ok-Partial
returns-in-Ok-Partial c = no_head (partial_is_none c.args.block.now (rw c.in-Ok-Partial.field-0-is at c.in-Ok-Partial.ensures.partial))

pub returns-in-Err : goal.returns-in-Err
returns-in-Err c =
    let room : length c.new-request.result.headers.now ≡ 64 = search rules in
    no_head (error_is_none c.args.block.now (subst (λ n. RequestOverflows n c.args.block.now) room c.in-Err.ensures.no_room))

pub returns-then-len-block : goal.returns-then-len-block
returns-then-len-block c =
    let found = rw c.in-Ok-Complete.field-0-is at c.in-Ok-Complete.ensures.complete in
    no_head (
    other_is_none c.args.block.now c.in-Ok-Complete.len c.parse.new.self found.0 found.1
    (elim c.then-len-block.branch [ then-len-block-via-then-len-block w ↦ inl w.if-len-block.true | then-len-block-via-else-len-block+then-request-gt-MOST_FIELDS w ↦ inr w.if-request-gt-MOST_FIELDS.true ])
    )

pub returns-in-Some-Some-Some : goal.returns-in-Some-Some-Some
returns-in-Some-Some-Some c =
    let found = rw c.in-Ok-Complete.field-0-is at c.in-Ok-Complete.ensures.complete in
    let h = found.0 in
    let s = c.in-Some-Some-Some in
    let p : Parts = record { method = s.method.now; target = s.path.now; minor = s.minor; fields = map header_parts c.parse.new.self.headers.now } in
    let e : p ≡ parts h = parts_are c.args.block.now c.in-Ok-Complete.len c.parse.new.self h found.1 s.method s.path s.minor s.is-0 s.is-1 s.is-2 in
    says c.args.block.now h p (verdict_of c.judge.result) (read_whole c.args.block.now c.in-Ok-Complete.len c.parse.new.self h found.1 (search rules) (omega (arith, c.if-request-gt-MOST_FIELDS.false))) e c.judge.ensures
