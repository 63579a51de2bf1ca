use Rattle.std.proofs.Common.{◌∙◌, sym}
use Rattle.std.proofs.lemmas.Result.{on_ok_weaker}
use Rattle.ld_expand.proofs.Endings.{types_listed}
use Rattle.ld_expand.proofs.ending.list_types.Goals as goal

pub returns-in_ok-types-in-Some : goal.returns-in_ok-types-in-Some
returns-in_ok-types-in-Some c =
    on_ok_weaker c.put.result (λ e.
    types_listed c.args.entries.now c.replace.new.entries c.put.new.entries c.in-Some.types c.from_vec.result c.in_ok-types.ensures.entries (sym c.in_ok-types.ensures.former ∙ c.in-Some.is)
    (c.from_vec.ensures ∙ c.in_ok-types-in-Some.ensures) e)
    c.put.ensures
