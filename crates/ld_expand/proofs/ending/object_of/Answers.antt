use Rattle.std.proofs.Common.{◌≡◌, ◌∙◌, ap, sym, rules, Some}
use Rattle.std.specs.Prelude.{option_copied, codes}
use Rattle.ld_tree.specs.Maps.{find}
use Rattle.ld_rec.specs.Outcome.{Refuses}
use Rattle.ld_rec.specs.Expansion.{object_of}
use Rattle.ld_expand.proofs.Endings.{value_stays, value_is_null, value_refuses}
use Rattle.ld_expand.proofs.ending.object_of.Goals as goal

pub returns-in_err-keeps_value-in-Some : goal.returns-in_err-keeps_value-in-Some
returns-in_err-keeps_value-in-Some c stock =
    let ends : Refuses c.in_err-keeps_value-in-Some.field-0.0 ((object_of (find c.args.entries (codes "@value")) c.args.entries).run stock).result =
    value_refuses stock c.args.entries c.in-Some.value.now (sym c.get.ensures ∙ ap option_copied c.in-Some.is) c.in_err-keeps_value-in-Some.field-0.0 (c.in_err-keeps_value-in-Some.ensures stock) in
    search (rules, ends)

pub returns-then-branch : goal.returns-then-branch
returns-then-branch c stock =
    value_stays stock c.args.entries c.in-Some.value.now (sym c.get.ensures ∙ ap option_copied c.in-Some.is) c.in_ok-keeps_value-in-Some.field-0 c.if-branch.true (c.in_ok-keeps_value-in-Some.ensures stock)

pub returns-else-branch : goal.returns-else-branch
returns-else-branch c stock =
    value_is_null stock c.args.entries c.in-Some.value.now (sym c.get.ensures ∙ ap option_copied c.in-Some.is) c.in_ok-keeps_value-in-Some.field-0 c.if-branch.false (c.in_ok-keeps_value-in-Some.ensures stock)
