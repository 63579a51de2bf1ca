use Rattle.std.proofs.Common.{ap}
use Rattle.ld_rec.specs.Outcome.{continued}
use Rattle.ld_rec.specs.Terms.{mapped_or_ignored}
use Rattle.ld_tree.specs.declared.tree.Tree.{out-Tree}
use Rattle.ld_term.specs.Waits.{made_of, rest_of, draft_of}
use Rattle.ld_term.proofs.Forms.{other_id, no_null, no_text}
use Rattle.ld_term.proofs.named.value_and_mapped.Goals as goal

pub returns-in_default-clause-gives : goal.returns-in_default-clause-gives
returns-in_default-clause-gives c = λ check define stock.
    let m = made_of c.args.made.now c.args.defined.now in
    let t = c.args.task in
    ap (λ o. continued (o.run stock) (λ a. (mapped_or_ignored check (rest_of c.args.rest.now) t.term c.args.entries.now t.previous m a).run stock))
    (other_id define c.args.local.now t.term t.simple (draft_of t m) (out-Tree c.args.value.now) (no_null c.args.value.now c.in_default.not-Null) (no_text c.args.value.now c.in_default.not-Text))
