use Rattle.std.proofs.Common.{◌≡◌, ◌∙◌, ◌+◌, ◌∷◌, drop, ap, sym, rules}
use Rattle.ld_rec.specs.Iris.{or_else}
use Rattle.ld_rec.specs.Outcome.{Refuses, each}
use Rattle.ld_compact.specs.Compaction.{with_type}
use Rattle.ld_compact.proofs.Stages.{loop_goes, loop_refuses, next_item}
use Rattle.ld_compact.proofs.types.apply_each.Goals as goal

pub loop-text-preserved : goal.loop-text-preserved
loop-text-preserved g c =
    let inv = c.loop-text.invariant in
    let texts = c.args.texts.now in
    let i = c.loop-text.text-index in
    let comes : drop i texts ≡ c.as_str.result.now ∷ drop (i + 1) texts = next_item texts i c.text-item.result c.loop-text-test.true c.text-item.is ∙ ap (λ x. x ∷ drop (i + 1) texts) (sym c.as_str.ensures) in (
      loop_goes (g.W.Contexts.stock c.args.work.now) (g.W.Contexts.stock c.loop-text.work) inv.1.0 (with_type (g.W.Kept.View.flat c.args.entry.now)) texts (drop i texts) (drop (i + 1) texts)
          c.as_str.result.now (g.W.Kept.View.flat c.args.view.now) (g.W.Kept.View.flat (or_else c.loop-text.made c.args.view.now)) comes inv.0
          (g.W.Kept.View.flat (or_else c.in_ok-made.made c.args.view.now)) c.in_ok-made.ensures.answer,
      (c.in_ok-made.ensures.keeps.0 ∙ inv.1.0, λ kept k. c.in_ok-made.ensures.keeps.1 kept (inv.1.1 kept k)),
      c.in_ok-made.ensures.gave,
      c.in_ok-made.ensures.promises,
    )

pub returns-in_err-made-clause-answer : goal.returns-in_err-made-clause-answer
returns-in_err-made-clause-answer g c =
    let inv = c.loop-text.invariant in
    let texts = c.args.texts.now in
    let i = c.loop-text.text-index in
    let comes : drop i texts ≡ c.as_str.result.now ∷ drop (i + 1) texts = next_item texts i c.text-item.result c.loop-text-test.true c.text-item.is ∙ ap (λ x. x ∷ drop (i + 1) texts) (sym c.as_str.ensures) in
    let ends : Refuses c.in_err-made.field-0.0 ((each (with_type (g.W.Kept.View.flat c.args.entry.now)) texts (g.W.Kept.View.flat c.args.view.now)).run (g.W.Contexts.stock c.args.work.now)).result =
    loop_refuses (g.W.Contexts.stock c.args.work.now) (g.W.Contexts.stock c.loop-text.work) inv.1.0 (with_type (g.W.Kept.View.flat c.args.entry.now)) texts (drop i texts) (drop (i + 1) texts)
    c.as_str.result.now (g.W.Kept.View.flat c.args.view.now) (g.W.Kept.View.flat (or_else c.loop-text.made c.args.view.now)) comes inv.0
    c.in_err-made.field-0.0 c.in_err-made.ensures.answer in
    search (rules, ends)
