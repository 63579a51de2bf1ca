use Rattle.std.proofs.Common.{sym, ap, ◌∙◌}
use Rattle.std.specs.Option.{option_copied, option_map}
use Rattle.ld_ctx.specs.Flat.{flat}
use Rattle.ld_ctx.proofs.ByPlace.{is_found, found_at, none_at}
use Rattle.ld_rec.specs.Records.{is_protected}
use Rattle.ld_context.proofs.null.protected_at.Goals as goal

pub returns-in-None : goal.returns-in-None
returns-in-None c =
    let m = (flat c.args.ctx.now).own.terms in
    sym (ap (option_map is_protected) (none_at m.0 c.args.place (sym c.term_at.ensures ∙ ap option_copied c.in-None.is)))

pub returns-in-None-def : goal.returns-in-None-def
returns-in-None-def c =
    let m = (flat c.args.ctx.now).own.terms in
    absurd (is_found m.0 c.args.place c.in-Some.term.now m.1 (sym c.term_at.ensures ∙ ap option_copied c.in-Some.is) (sym c.def.ensures ∙ ap option_copied c.in-None-def.is))

pub returns-in-Some-def : goal.returns-in-Some-def
returns-in-Some-def c =
    let m = (flat c.args.ctx.now).own.terms in
    sym (ap (option_map is_protected) (found_at m.0 c.args.place c.in-Some.term.now c.in-Some-def.def.now m.1 (sym c.term_at.ensures ∙ ap option_copied c.in-Some.is) (sym c.def.ensures ∙ ap option_copied c.in-Some-def.is)))
