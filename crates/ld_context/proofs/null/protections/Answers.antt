use Rattle.std.proofs.Common.{◌≡◌, sym, ap, ◌∙◌, map, length, arith}
use Rattle.std.proofs.lemmas.Grind.{common_steps}
use Rattle.std.specs.Prelude.{slice_get}
use Rattle.ld_ctx.specs.Flat.{flat}
use Rattle.ld_rec.specs.Records.{is_protected}
use Rattle.ld_ctx.proofs.ByPlace.{take_whole}
use Rattle.ld_context.proofs.Protected.{get_map, one_longer}
use Rattle.ld_context.proofs.null.protections.Goals as goal

pub loop-protected-preserved : goal.loop-protected-preserved
loop-protected-preserved c =
    let m = (flat c.args.ctx.now).own.terms in
    let xs = c.loop-protected.all.items in
    let e : c.len.result ≡ length xs = grind (arith, common_steps) in
    one_longer (map is_protected m.0) xs _ c.in-Some.protected c.in_ok-push.ensures.items c.loop-protected.invariant
    (sym c.in-Some.is ∙ c.protected_at.ensures ∙ sym (get_map is_protected m.0 c.len.result) ∙ ap (slice_get (map is_protected m.0)) e)

pub returns : goal.returns
returns c =
    let m = (flat c.args.ctx.now).own.terms in
    let xs = c.loop-protected.all.items in
    let e : c.len.result ≡ length xs = grind (arith, common_steps) in
    c.loop-protected.invariant ∙ take_whole (map is_protected m.0) (length xs) (sym c.in_default.is ∙ c.protected_at.ensures ∙ sym (get_map is_protected m.0 c.len.result) ∙ ap (slice_get (map is_protected m.0)) e)
