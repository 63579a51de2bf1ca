use Rattle.std.proofs.Common.{◌≡◌, false, rules}
use Rattle.std.specs.Prelude.{codes}
use Rattle.std.specs.Str.{bytes_eq}
use Rattle.ld_expand.proofs.Rules.{backward_gives}
use Rattle.ld_expand.proofs.keywords.add_backward.Goals as goal

pub returns : goal.returns
returns c stock =
    let other : bytes_eq c.args.name (codes "@reverse") ≡ false = search rules in
    backward_gives stock c.add_subjects.new.made c.args.made.now c.args.name c.args.value c.in_ok-items.items.items c.add_subjects.result other c.in_ok-items.ensures (c.add_subjects.ensures stock)
