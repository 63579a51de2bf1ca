use Rattle.std.proofs.Common.{◌≡◌, ◌++◌, ◌∷◌, [], ℕ, List, Bor, Some, None, map, sym, ap, ◌∙◌}
use Rattle.std.specs.Option.{option_copied}
use Rattle.std.specs.Map.{keys_of}
use Rattle.std.proofs.lemmas.List.{map-append}
use Rattle.ld_ctx.proofs.ByPlace.{take_next, take_whole}
use Rattle.ld_inverse.proofs.terms.in_order.Goals as goal

pub loop-term-preserved : goal.loop-term-preserved
loop-term-preserved g c =
    let names = keys_of (g.V.View.flat c.args.ctx.now).own.terms.0 in
    let now = λ (t : Bor (List ℕ)). t.now in
    ap (map now) c.in_ok-push.ensures.items ∙ map-append now c.loop-term.terms.items (c.in-Some.term ∷ [])
    ∙ ap (λ l. l ++ c.in-Some.term.now ∷ []) c.loop-term.invariant
    ∙ take_next names c.loop-term.place c.in-Some.term.now (sym (ap option_copied c.in-Some.is) ∙ c.term_at.ensures)

pub returns : goal.returns
returns g c =
    let names = keys_of (g.V.View.flat c.args.ctx.now).own.terms.0 in
    c.loop-term.invariant ∙ take_whole names c.loop-term.place (sym (ap option_copied c.in_default.is) ∙ c.term_at.ensures)
