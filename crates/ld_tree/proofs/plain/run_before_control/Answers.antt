use Rattle.std.proofs.Common.{nat_lt, w8, arith}
use Rattle.std.proofs.lemmas.Simd.{bitmask_splat}
use Rattle.ld_tree.proofs.Blocks.{run_of_none, run_to_first}
use Rattle.ld_tree.proofs.plain.run_before_control.Goals as goal

pub returns-then-places-eq0 : goal.returns-then-places-eq0
returns-then-places-eq0 c = run_of_none (λ x. nat_lt x 32) c.args.block _ (bitmask_splat w8 (λ x y. nat_lt x y) c.args.block 16 32 (omega arith) (omega arith)) (omega arith) (omega arith)

pub returns : goal.returns
returns c = run_to_first (λ x. nat_lt x 32) c.args.block _ (bitmask_splat w8 (λ x y. nat_lt x y) c.args.block 16 32 (omega arith) (omega arith)) (omega arith) (omega arith)
