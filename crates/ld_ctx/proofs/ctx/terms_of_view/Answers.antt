use Rattle.std.proofs.Common.{◌≡◌, sym, ap, ◌∙◌, ◌++◌, [], ◌∷◌, subst}
use Rattle.std.specs.Map.{keys_of}
use Rattle.ld_tree.specs.Names.{AreInOrder, same_sorted}
use Rattle.ld_ctx.proofs.ByPlace.{take_next, take_whole}
use Rattle.ld_ctx.proofs.ctx.terms_of_view.Goals as goal

pub loop-copied-preserved : goal.loop-copied-preserved
loop-copied-preserved g c =
    let m = (g.V.View.flat c.args.view.now).own.terms in
    c.in_ok-push.ensures.items ∙ ap (λ l. l ++ c.in-Some.entry ∷ []) c.loop-copied.invariant
    ∙ take_next m.0 c.loop-copied.place c.in-Some.entry (sym c.in-Some.is ∙ c.in_ok-entry.ensures)

pub from_sorted-requires : goal.from_sorted-requires
from_sorted-requires g c =
    let m = (g.V.View.flat c.args.view.now).own.terms in
    let all : c.loop-copied.copied.items ≡ m.0 = c.loop-copied.invariant ∙ take_whole m.0 c.loop-copied.place (sym c.in_default.is ∙ c.in_ok-entry.ensures) in
    subst (λ l. AreInOrder (keys_of l)) (sym all) m.1

pub returns : goal.returns
returns g c =
    let m = (g.V.View.flat c.args.view.now).own.terms in
    same_sorted _ _ (c.from_sorted.ensures ∙ c.loop-copied.invariant ∙ take_whole m.0 c.loop-copied.place (sym c.in_default.is ∙ c.in_ok-entry.ensures))
