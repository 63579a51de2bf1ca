use Rattle.std.proofs.Common.{ap}
use Rattle.std.specs.Prelude.{codes}
use Rattle.ld_rec.specs.Outcome.{continued}
use Rattle.ld_rec.specs.Terms.{either_way}
use Rattle.ld_tree.specs.Maps.{find}
use Rattle.ld_tree.specs.declared.tree.Tree.{out-Tree}
use Rattle.ld_term.specs.Waits.{made_of, rest_of, draft_of}
use Rattle.ld_term.proofs.Forms.{other_type, no_text}
use Rattle.ld_term.proofs.kinds.typed_by.Goals as goal

pub returns-in_default-clause-gives : goal.returns-in_default-clause-gives
returns-in_default-clause-gives c = λ check define stock.
    let m = made_of c.args.made.now c.args.defined.now in
    let t = c.args.task in
    ap (λ o. continued (o.run stock) (λ a. (either_way check define (rest_of c.args.rest.now) c.args.local.now t.term t.simple c.args.entries.now t.previous (find c.args.entries.now (codes "@reverse")) a).run stock))
    (other_type define c.args.local.now (draft_of t m) (out-Tree c.args.value.now) (no_text c.args.value.now c.in_default.not-Text))
