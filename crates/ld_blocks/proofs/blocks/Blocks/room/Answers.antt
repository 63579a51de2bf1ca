use Rattle.std.proofs.Common.{ap, arith}
use Rattle.std.specs.Prelude.{length}
use Rattle.ld_blocks.proofs.Joining.{length-listed}
use Rattle.ld_blocks.proofs.blocks.Blocks.room.Goals as goal

pub returns : goal.returns
returns g c =
    omega (arith, c.len.ensures, c.len-2.ensures, c.self.invariant.last_most, length-listed _ _ _ c.self.invariant, ap (λ l. length l.items) c.self.view_is, ap (λ l. l.capacity) c.self.view_is)
