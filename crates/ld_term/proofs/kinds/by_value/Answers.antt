use Rattle.std.proofs.Common.{sym, ap, ◌∙◌, true, false}
use Rattle.std.specs.Prelude.{codes}
use Rattle.ld_tree.specs.Maps.{put, empty}
use Rattle.ld_tree.specs.declared.tree.Tree.{out-Tree}
use Rattle.ld_tree.specs.declared.tree.Tree.TheVariants as V
use Rattle.ld_rec.specs.Terms.{by_value, drafted}
use Rattle.ld_term.specs.Waits.{made_of, rest_of}
use Rattle.ld_term.proofs.Along.{comes_along}
use Rattle.ld_term.proofs.Forms.{null_out, text_out}
use Rattle.ld_term.proofs.kinds.by_value.Goals as goal

pub returns-in_ok-entries-in-Null-clause-gives : goal.returns-in_ok-entries-in-Null-clause-gives
returns-in_ok-entries-in-Null-clause-gives c = λ check define.
    let m = made_of c.args.made.now c.args.defined.now in
    let r = rest_of c.args.rest.now in
    let l = c.args.local.now in
    comes_along _ _ (by_value check define r l c.args.term (out-Tree c.args.value.now) c.args.previous m).run (drafted check define r l c.args.term false c.in_ok-entries-in-Null.entries c.args.previous m).run
    (λ stock. ap (λ v. (by_value check define r l c.args.term v c.args.previous m).run stock) (null_out c.args.value.now c.in-Null.is)
    ∙ ap (λ v. (drafted check define r l c.args.term false (put empty (codes "@id") v) c.args.previous m).run stock) V.rolls-Null
    ∙ ap (λ es. (drafted check define r l c.args.term false es c.args.previous m).run stock) (sym c.in_ok-entries-in-Null.ensures))
    (c.drafted.ensures.gives check define)

pub returns-in_ok-entries-in-Text-clause-gives : goal.returns-in_ok-entries-in-Text-clause-gives
returns-in_ok-entries-in-Text-clause-gives c = λ check define.
    let m = made_of c.args.made.now c.args.defined.now in
    let r = rest_of c.args.rest.now in
    let l = c.args.local.now in
    comes_along _ _ (by_value check define r l c.args.term (out-Tree c.args.value.now) c.args.previous m).run (drafted check define r l c.args.term true c.in_ok-entries-in-Text.entries c.args.previous m).run
    (λ stock. ap (λ v. (by_value check define r l c.args.term v c.args.previous m).run stock) (text_out c.args.value.now c.in-Text.text c.in-Text.is)
    ∙ ap (λ v. (drafted check define r l c.args.term true (put empty (codes "@id") v) c.args.previous m).run stock) (V.rolls-Text c.in-Text.text ∙ ap V.Text (sym c.in_ok-try_copy-in-Text.ensures))
    ∙ ap (λ es. (drafted check define r l c.args.term true es c.args.previous m).run stock) (sym c.in_ok-entries-in-Text.ensures))
    (c.drafted-in-Text.ensures.gives check define)
