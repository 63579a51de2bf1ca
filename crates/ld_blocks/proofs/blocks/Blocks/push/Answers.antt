use Rattle.std.proofs.Common.{ap, arith}
use Rattle.std.specs.Prelude.{length}
use Rattle.ld_blocks.proofs.Joining.{length-listed}
use Rattle.ld_blocks.proofs.blocks.Blocks.push.Goals as goal

pub next_block-requires-clause-spare : goal.next_block-requires-clause-spare
next_block-requires-clause-spare g c =
    omega (arith, c.requires, c.len.ensures, c.if-len-eq-BLOCK.true, length-listed _ _ _ c.self.invariant, ap (λ l. length l.items) c.self.view_is, ap (λ l. l.capacity) c.self.view_is)
