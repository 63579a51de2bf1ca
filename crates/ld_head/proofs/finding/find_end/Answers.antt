use Rattle.std.proofs.Common.{arith}
use Rattle.ld_head.proofs.Passing.{too_long}
use Rattle.ld_head.proofs.finding.find_end.Goals as goal

pub returns-then-i-seen-clause-finds : goal.returns-then-i-seen-clause-finds
returns-then-i-seen-clause-finds c =
    too_long c.args.seen c.args.place c.loop-i.place c.args.piece.now c.loop-i.i c.loop-i.invariant (omega (arith, c.loop-i-test.true)) (omega (arith, c.if-i-seen.true, c.requires.short))

pub returns-then-piece-seen-clause-finds : goal.returns-then-piece-seen-clause-finds
returns-then-piece-seen-clause-finds c =
    too_long c.args.seen c.args.place c.loop-i.place c.args.piece.now c.loop-i.i c.loop-i.invariant (omega (arith, c.loop-i.auto)) (omega (arith, c.loop-i-test.false, c.if-piece-seen.true, c.requires.short))
