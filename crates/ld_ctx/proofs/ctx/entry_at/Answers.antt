use Rattle.std.proofs.Common.{sym, ap, ap₂, ◌∙◌, Some}
use Rattle.std.specs.Option.{option_copied}
use Rattle.ld_ctx.proofs.ByPlace.{is_found, found_at}
use Rattle.ld_ctx.proofs.ctx.entry_at.Goals as goal

pub returns-in-None-def : goal.returns-in-None-def
returns-in-None-def g c =
    let m = (g.V.View.flat c.args.view.now).own.terms in
    absurd (is_found m.0 c.args.place c.in-Some.term.now m.1 (sym c.term_at.ensures ∙ ap option_copied c.in-Some.is) (sym c.def.ensures ∙ ap option_copied c.in-None-def.is))

pub returns-in_ok-try_copy-in-Some-def : goal.returns-in_ok-try_copy-in-Some-def
returns-in_ok-try_copy-in-Some-def g c =
    let m = (g.V.View.flat c.args.view.now).own.terms in
    let at = sym c.term_at.ensures ∙ ap option_copied c.in-Some.is in
    let found = sym c.def.ensures ∙ ap option_copied c.in-Some-def.is in
    ap₂ (λ n v. Some (n, v)) c.in_ok-from_str-in-Some-def.ensures c.in_ok-try_copy-in-Some-def.ensures ∙ sym (found_at m.0 c.args.place c.in-Some.term.now c.in-Some-def.def.now m.1 at found)
