use Rattle.std.proofs.Common.{◌≡◌, ◌∙◌, ◌+◌, ap, sym, arith, ℕ}
use Rattle.ld_answer.specs.declared.op.Op.{Op}
use Rattle.ld_answer.specs.declared.op.Op.TheVariants as ops
use Rattle.ld_rec.specs.Outcome.{Stock}
use Rattle.ld_soak.specs.Soaks.{answer_length, total_length}
use Rattle.ld_soak.proofs.Totals.{total_more}
use Rattle.ld_soak.proofs.sums.Sums.add_documents.Goals as goal

-- a total that grew by what one more document is answered
grown : (stock : Stock) (op : Op) (n m before after : ℕ) → m ≡ n + 1 → after ≡ before + answer_length stock op (n + 1) → before ≡ total_length stock op n → after ≡ total_length stock op m
grown stock op n m before after more is was = is ∙ ap (λ t. t + answer_length stock op (n + 1)) was ∙ sym (total_more stock op n) ∙ ap (total_length stock op) (sym more)

pub loop-self-preserved : goal.loop-self-preserved
loop-self-preserved c =
    let stock = c.args.stock.now in
    let next = c.in_ok-add_next.ensures in
    let was = c.loop-self.invariant.lengths in
    record {
      within = omega (arith, next.documents, c.loop-self-test.true);
      loads = next.loads ∙ c.loop-self.invariant.loads;
      lengths = (
        grown stock ops.Expand _ _ _ _ next.documents next.expanded was.0,
        grown stock ops.Compact _ _ _ _ next.documents next.compacted was.1,
        grown stock ops.Flatten _ _ _ _ next.documents next.flattened was.2,
      );
      bounded = next.bounded;
    }
