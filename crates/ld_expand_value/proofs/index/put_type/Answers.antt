use Rattle.std.proofs.Common.{◌∙◌, sym, ap}
use Rattle.std.proofs.lemmas.Result.{on_ok_weaker}
use Rattle.std.specs.Prelude.{option_copied}
use Rattle.ld_rec.specs.Values.{put_type}
use Rattle.ld_expand_value.proofs.Maps.{types_made}
use Rattle.ld_expand_value.proofs.index.put_type.Goals as goal

pub returns-in_ok-types-in-Some : goal.returns-in_ok-types-in-Some
returns-in_ok-types-in-Some c =
    on_ok_weaker c.put.result (λ e.
    types_made c.args.entries.now c.replace.new.entries c.put.new.entries c.in-Some.first.now c.in_ok-former-in-Some.former c.from_vec.result
    c.in_ok-former-in-Some.ensures.entries c.in_ok-former-in-Some.ensures.former (c.from_vec.ensures ∙ c.in_ok-types-in-Some.ensures) e
    ∙ ap (λ o. put_type (option_copied o) c.args.entries.now) (sym c.in-Some.is))
    c.put.ensures
