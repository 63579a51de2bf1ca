use Rattle.std.proofs.Common.{◌≡◌, ◌-◌, take, drop, length, arith}
use Rattle.std.proofs.lemmas.List.{length-drop, length-take-le}
use Rattle.std.proofs.lemmas.List.Sums.{prefix_len-le-length}
use Rattle.std.proofs.lemmas.Simd.{length-chunk}
use Rattle.std.specs.List.{prefix_len}
use lib.Lanes.{chunk}
use Rattle.ld_tree.specs.Reading.{is_unescaped}
use Rattle.ld_tree.proofs.Blocks.{past_block, in_block}
use Rattle.ld_tree.proofs.plain.plain_len.Goals as goal

pub loop-at-preserved : goal.loop-at-preserved
loop-at-preserved c =
    let bytes = c.args.bytes.now in
    let at = c.loop-at.at in
    let whole : prefix_len is_unescaped (chunk at 16 bytes) ≡ 16 = omega (arith, c.run_in_block-run.ensures, prefix_len-le-length is_unescaped (chunk at 16 bytes), length-chunk at 16 bytes (omega arith)) in
    (omega (arith, past_block bytes at 16 (omega arith) whole, c.loop-at.invariant.0), omega arith)

pub returns-then-run-lt-LANES : goal.returns-then-run-lt-LANES
returns-then-run-lt-LANES c =
    let run = c.run_in_block-run in
    omega (arith, run.ensures, in_block c.args.bytes.now c.loop-at.at 16 (omega arith) (omega (arith, run.ensures)), c.loop-at.invariant.0)

pub overflow_add-result-2 : goal.overflow_add-result-2
overflow_add-result-2 c =
    let bytes = c.args.bytes.now in
    let at = c.loop-at.at in
    let rest = take (length bytes - at) (drop at bytes) in
    omega (arith, c.plain_len_by_bytes.ensures, prefix_len-le-length is_unescaped rest, length-take-le (length bytes - at) (drop at bytes), length-drop at bytes, c.loop-at.invariant.1)
