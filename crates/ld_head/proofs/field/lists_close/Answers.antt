use Rattle.std.proofs.Common.{map, ap, ◌∙◌}
use Rattle.std.proofs.lemmas.List.{take_all}
use Rattle.httparse.specs.Borrowed.{header_parts}
use Rattle.http1.specs.Fields.{known_fields}
use Rattle.ld_head.proofs.field.lists_close.Goals as goal

pub returns : goal.returns
unfolding known_fields
returns c =
    let all = take_all c.loop-field.field-index c.args.fields.now c.loop-field-test.false in
    ap (λ k. k.close) (c.loop-field.invariant ∙ ap (λ fs. known_fields (map header_parts fs)) all)
