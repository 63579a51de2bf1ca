use Rattle.std.proofs.Common.{◌==◌, w8, arith}
use Rattle.std.proofs.lemmas.Simd.{bitmask_splat}
use Rattle.ld_tree.proofs.Blocks.{run_of_none, run_to_first}
use Rattle.ld_tree.proofs.plain.run_before.Goals as goal

pub returns-then-places-eq0 : goal.returns-then-places-eq0
returns-then-places-eq0 c = run_of_none (λ x. x == c.args.byte) c.args.block _ (bitmask_splat w8 (λ x y. x == y) c.args.block 16 c.args.byte (omega arith) (omega arith)) (omega arith) (omega arith)

pub returns : goal.returns
returns c = run_to_first (λ x. x == c.args.byte) c.args.block _ (bitmask_splat w8 (λ x y. x == y) c.args.block 16 c.args.byte (omega arith) (omega arith)) (omega arith) (omega arith)
