use Rattle.std.proofs.Common.{◌≡◌, ◌∙◌, ℕ, ◌+◌, Bool, true, false, refl, sym, ap, rules, arith}
use Rattle.ld_work.specs.Working.{is_due}
use Rattle.ld_work.proofs.Steps.{one_alone, one_and_round}
use Rattle.ld_work.proofs.worker.serve_one.Goals as goal

pub returns-then-not-is_round_due-clause-serves : goal.returns-then-not-is_round_due-clause-serves
returns-then-not-is_round_due-clause-serves g c =
    one_alone g.D.Door.doorway g.L.Loader.loading c.args.every (g.D.Door.sides c.args.link) c.converse-seats.result.0.book.front c.args.post.now c.converse-seats.new.post c.args.log.now
    (record { sessions = c.push_reserved.new.self; rounds = c.args.log.now.rounds }) c.converse-seats.result.1 c.converse-seats.ensures.serves c.push_reserved.ensures.items refl (search rules)

pub returns-clause-serves : goal.returns-clause-serves
returns-clause-serves g c =
    one_and_round g.D.Door.doorway g.L.Loader.loading c.args.every (g.D.Door.sides c.args.link) c.converse-seats.result.0.book.front c.have_round-seats.result.0.book.front c.args.post.now c.converse-seats.new.post
    c.have_round-seats.new.loader c.args.log.now (record { sessions = c.push_reserved.new.self; rounds = c.push_reserved-2.new.self }) c.converse-seats.result.1 c.have_round-seats.result.1 c.converse-seats.ensures.serves
    c.have_round-seats.ensures.seen c.have_round-seats.ensures.revises c.push_reserved.ensures.items c.push_reserved-2.ensures.items (search rules)
