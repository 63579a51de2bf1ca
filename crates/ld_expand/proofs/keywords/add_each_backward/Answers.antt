use Rattle.std.proofs.Common.{◌≡◌, ◌∷◌, refl, arith, rules}
use Rattle.std.proofs.lemmas.Grind.{common_steps}
use Rattle.ld_rec.specs.Outcome.{Stock, Refuses, each}
use Rattle.ld_rec.specs.Expansion.{add_backward}
use Rattle.ld_expand.proofs.Stages.{loop_goes, loop_refuses}
use Rattle.ld_expand.proofs.keywords.add_each_backward.Goals as goal

pub loop-name-preserved : goal.loop-name-preserved
loop-name-preserved c stock =
    let rest = c.next.new.self.rest.items in
    let comes : c.loop-name.name-iterator.rest.items ≡ (c.in-Some.name, c.in-Some.value) ∷ rest = grind (arith, common_steps) in
    loop_goes stock stock refl add_backward c.args.entries.0 c.loop-name.name-iterator.rest.items rest (c.in-Some.name, c.in-Some.value) c.args.made.now c.loop-name.made comes (c.loop-name.invariant stock)
    c.add_backward.new.made (c.in_ok-add_backward.ensures stock)

pub returns-in_err-add_backward : goal.returns-in_err-add_backward
returns-in_err-add_backward c stock =
    let rest = c.next.new.self.rest.items in
    let comes : c.loop-name.name-iterator.rest.items ≡ (c.in-Some.name, c.in-Some.value) ∷ rest = grind (arith, common_steps) in
    let ends : Refuses c.in_err-add_backward.field-0.0 ((each add_backward c.args.entries.0 c.args.made.now).run stock).result =
    loop_refuses stock stock refl add_backward c.args.entries.0 c.loop-name.name-iterator.rest.items rest (c.in-Some.name, c.in-Some.value) c.args.made.now c.loop-name.made comes (c.loop-name.invariant stock)
    c.in_err-add_backward.field-0.0 (c.in_err-add_backward.ensures stock) in
    search (rules, ends)
