use Rattle.std.proofs.Common.{◌≡◌, sym, ◌∙◌, Some, false}
use Rattle.ld_rec.specs.Iris.{parts}
use Rattle.ld_rec.specs.Terms.{is_due}
use Rattle.ld_term.specs.Waits.{made_of, rest_of, own_and_mapped, from_own}
use Rattle.ld_term.proofs.Along.{comes_along}
use Rattle.ld_term.proofs.Parts.{own_here}
use Rattle.ld_term.proofs.mapping.own_and_mapped.Goals as goal

pub returns-else-is_due-clause-gives : goal.returns-else-is_due-clause-gives
returns-else-is_due-clause-gives c = λ check define.
    let m = made_of c.args.made.now c.args.defined.now in
    let r = rest_of c.args.rest.now in
    let is : parts c.args.task.term ≡ Some (c.in-Some.prefix.now, c.in-Some.field-0-1.now) = sym c.in-Some.ensures in
    let due : is_due c.args.local.now c.in-Some.prefix.now m ≡ false = sym c.is_due.ensures ∙ c.if-is_due.false in
    comes_along _ _ (own_and_mapped check define r c.args.local.now c.args.task c.args.entries.now m).run (from_own check r c.args.task c.args.entries.now m).run
    (own_here check define r c.args.local.now c.args.task c.args.entries.now m (c.in-Some.prefix.now, c.in-Some.field-0-1.now) is due)
    (c.from_own.ensures.gives check define c.args.local.now)
