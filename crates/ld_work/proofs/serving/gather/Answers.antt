use Rattle.std.proofs.Common.{◌≡◌, Option, Some, sym, rules}
use Rattle.ld_work.proofs.Gathering.{gathered_more}
use Rattle.ld_work.proofs.serving.gather.Goals as goal

pub loop-shift-preserved : goal.loop-shift-preserved
loop-shift-preserved g c =
    gathered_more c.args.first.book c.args.first.library c.loop-shift.yielded c.loop-shift.all c.add-in-loop-shift.new.self c.loop-shift.gathered c.add-in-loop-shift-2.new.self c.in-Some.shift c.in_ok-log.log c.loop-shift.invariant
    (search rules) c.in_ok-add-2.ensures.book c.in_ok-add-2.ensures.library c.in_ok-add-3.ensures.posts c.in_ok-add-3.ensures.sessions c.in_ok-add-3.ensures.rounds
