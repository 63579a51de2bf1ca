use Rattle.std.proofs.Common.{◌+◌, ◌-◌, ◌/◌, ◌<◌, ◌≤◌, ℕ, length, get_or, arith}
use Rattle.ld_history.proofs.Turns.{rising, counted}
use Rattle.ld_history.proofs.rules.turns_until.Goals as goal

pub loop-low-preserved-then-turns-middle : goal.loop-low-preserved-then-turns-middle
loop-low-preserved-then-turns-middle c =
    let turns = c.args.turns.now in
    let middle : ℕ = c.loop-low.low + (c.loop-low.high - c.loop-low.low) / 2 in
    let below : middle < c.loop-low.high = omega (arith, c.loop-low-test.true) in
    let within : middle < length turns = omega (arith, c.loop-low.invariant.within) in
    let here : get_or turns middle 0 ≤ c.args.version = c.if-turns-middle.true in
    record {
      ordered = omega arith;
      within = c.loop-low.invariant.within;
      before = λ k lt. let up : get_or turns k 0 ≤ get_or turns middle 0 = rising 0 turns k middle c.requires (omega arith) within in omega arith;
      after = c.loop-low.invariant.after;
    }

pub loop-low-preserved : goal.loop-low-preserved
loop-low-preserved c =
    let turns = c.args.turns.now in
    let middle : ℕ = c.loop-low.low + (c.loop-low.high - c.loop-low.low) / 2 in
    let below : middle < c.loop-low.high = omega (arith, c.loop-low-test.true) in
    let here : c.args.version < get_or turns middle 0 = c.if-turns-middle.false in
    record {
      ordered = omega arith;
      within = omega (arith, c.loop-low.invariant.within);
      before = c.loop-low.invariant.before;
      after = λ k from lt. let up : get_or turns middle 0 ≤ get_or turns k 0 = rising 0 turns middle k c.requires from lt in omega arith;
    }

pub returns : goal.returns
returns c =
    let met : c.loop-low.high ≤ c.loop-low.low = c.loop-low-test.false in
    counted c.args.turns.now c.args.version c.loop-low.low (omega (arith, c.loop-low.invariant.within, c.loop-low.invariant.ordered)) c.loop-low.invariant.before
    (λ k from lt. c.loop-low.invariant.after k (omega arith) lt)
