use Rattle.std.proofs.Common.{◌≡◌, ◌+◌, sym, ap, ◌∙◌, subst, ◌∷◌, [], ◌++◌, drop, map, append_assoc}
use Rattle.ld_ctx.specs.Flat.{flat}
use Rattle.ld_context.specs.Trials.{former_entry}
use Rattle.ld_context.proofs.Telling.{drop_next}
use Rattle.ld_context.proofs.trial.former_defs.Goals as goal

pub loop-entry-preserved : goal.loop-entry-preserved
loop-entry-preserved c =
    let f = former_entry (flat c.args.ctx.now) in
    let xs = c.args.entries.now.0 in
    let i = c.loop-entry.entry-index in
    let defs = c.loop-entry.defs.items in
    let same : c.as_slice-entry-items.result.now ≡ xs = c.as_slice-entry-items.ensures.value in
    let e : drop i xs ≡ c.entry-item.result ∷ drop (i + 1) xs = subst (λ l. drop i l ≡ c.entry-item.result ∷ drop (i + 1) l) same (drop_next c.as_slice-entry-items.result.now i c.entry-item.result c.loop-entry-test.true c.entry-item.is) in
    ap (λ l. l ++ map f (drop (i + 1) xs)) (c.in_ok-push.ensures.items ∙ ap (λ x. defs ++ x ∷ []) c.in_ok-former_entry.ensures)
    ∙ append_assoc defs (f c.entry-item.result ∷ []) (map f (drop (i + 1) xs))
    ∙ ap (λ l. defs ++ map f l) (sym e) ∙ c.loop-entry.invariant
