use Rattle.ld_expand.proofs.Rules.{reversed_gives, reversed_refuses}
use Rattle.std.proofs.Common.{rules, Some}
use Rattle.ld_rec.specs.Outcome.{Refuses}
use Rattle.ld_rec.specs.Kinds.{map_of}
use Rattle.ld_rec.specs.Expansion.{add_reversed}
use Rattle.ld_expand.proofs.keywords.add_reverse_map.Goals as goal

pub returns : goal.returns
returns c stock =
    reversed_gives stock c.args.entries c.take_out-reversed.new.self c.take_out-reversed.result c.args.made.now c.add_forward.new.made c.add_each_backward.new.made c.add_each_backward.result
    c.take_out-reversed.ensures.former c.take_out-reversed.ensures.map (c.in_ok-add_forward.ensures stock) (c.add_each_backward.ensures stock)

pub returns-in_err-add_forward : goal.returns-in_err-add_forward
returns-in_err-add_forward c stock =
    let ends : Refuses c.in_err-add_forward.field-0.0 ((add_reversed (Some (map_of c.args.entries)) c.args.made.now).run stock).result =
    reversed_refuses stock c.args.entries c.take_out-reversed.result c.args.made.now c.in_err-add_forward.field-0.0 c.take_out-reversed.ensures.former (c.in_err-add_forward.ensures stock) in
    search (rules, ends)
