-- Lengths in sum, and one more.
use Rattle.std.proofs.Common.{◌≡◌, ◌+◌, ℕ, arith}
use Rattle.std.proofs.lemmas.List.FromFn.{sum_by-map-range_with_len_more}
use Rattle.ld_answer.specs.declared.op.Op.{Op}
use Rattle.ld_rec.specs.Outcome.{Stock}
use Rattle.ld_soak.specs.Soaks.{answer_length, total_length}

pub total_more : (stock : Stock) (op : Op) (count : ℕ) → total_length stock op (count + 1) ≡ total_length stock op count + answer_length stock op (count + 1)
total_more stock op count = sum_by-map-range_with_len_more (λ x. x) (answer_length stock op) 1 count (count + 1) (omega arith)
